-- A buffer that is lent, and what a call writes to it. Document 01, "Numbers given back": "Nothing lent is written on a refusal."
use Rattle.std.specs.Prelude.{List, ◌++◌, ℕ, ◌+◌, length, take, drop}

-- the bytes of a buffer from place `at` on, overwritten by a row
unfoldable pub write_at : ℕ → List ℕ → List ℕ → List ℕ
write_at at row out = take at out ++ (row ++ drop (at + length row) out)
