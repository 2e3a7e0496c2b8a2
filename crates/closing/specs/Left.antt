-- How many rules are left without a colour. Document 01: "Any walk ends because the number of uncoloured rules falls at each level."
--
--   left b c         how many rules of the book have no colour
--   Shallow b c      the choices so far and those that may still be made are at most 255: a level fits in a byte
use Rattle.std.specs.Prelude.{ℕ, ◌+◌, ◌≤◌, length}
use Rattle.meaning.specs.Written.{Tables}
use Rattle.meaning.specs.Books.{Book}
use Rattle.meaning.specs.Colours.{uncoloured}
use Rattle.meaning.specs.Written.{pair}
use Rattle.meaning.specs.Lowest.{rules_in}

unfoldable pub left : Book → Tables → ℕ
left b c = length (rules_in b (uncoloured (pair c)))

abbrev pub Shallow : Book → Tables → Type 0
Shallow b c = c.level + left b c ≤ 255
