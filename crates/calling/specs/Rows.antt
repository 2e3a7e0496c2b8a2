-- The names of a text, each put into the row of its atom (talk/specs/Names says how they are read from there).
--
--   rowed name a names           the rows with the name at the front of the atom's row; as they were where it has no room with a zero behind it
--   part_rowed text from to ..    the same of the bytes that stand in the text from one place to another, if these are places of it
--   rows_of n text from to ..     the same of the first n atoms, by their places
use Rattle.std.specs.Prelude.{List, ℕ, zero, suc, ◌+◌, ◌*◌, length, get_or}
use Rattle.meaning.specs.Buffers.{write_at}
use Rattle.meaning.specs.Choice.{if_lt}
use Rattle.words.specs.Words.{between}

unfoldable pub rowed : List ℕ → ℕ → List ℕ → List ℕ
rowed name a names = if_lt (length name) 256 (if_lt (length names) (a * 256 + length name) names (write_at (a * 256) name names)) names

unfoldable pub part_rowed : List ℕ → ℕ → ℕ → ℕ → List ℕ → List ℕ
part_rowed text from to a names = if_lt to from names (if_lt (length text) to names (rowed (between text from to) a names))

unfoldable pub rows_of : ℕ → List ℕ → List ℕ → List ℕ → List ℕ → List ℕ
rows_of zero text from to names = names
rows_of (suc n) text from to names = part_rowed text (get_or from n 0) (get_or to n 0) n (rows_of n text from to names)
