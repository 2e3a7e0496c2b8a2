-- Decimal numbers. "Numbers are decimal without leading zeros", from 0 to 4,294,967,295.
--
--   number_of l       the number that a word says, or that it says none
use Rattle.std.specs.Prelude.{List, ℕ, Option}
use Rattle.decimal.specs.Digits.{plain_of}

unfoldable pub number_of : List ℕ → Option ℕ
number_of l = plain_of 4294967295 l
