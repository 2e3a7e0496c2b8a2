-- The words of a line. "Words are parted by one space."
--
--   first_word l      the bytes before the first space (32), all of them where there is none
--   other_words l     the bytes behind it, none where there is none
use Rattle.std.specs.Prelude.{List, ℕ, ◌+◌, take, drop}
use Rattle.system.specs.Places.{index_of}

unfoldable pub first_word : List ℕ → List ℕ
first_word l = take (index_of 32 l) l

unfoldable pub other_words : List ℕ → List ℕ
other_words l = drop (index_of 32 l + 1) l
