-- The names of the atoms as rows of 256 bytes, a row for each atom, each name with a zero behind it.
--
--   row_of names a        the bytes of the atom's row
--   name_in names a       the atom's name: the bytes of its row before the first zero; none where the row is not whole
use Rattle.std.specs.Prelude.{List, [], ℕ, ◌+◌, ◌*◌, length, take}
use Rattle.system.specs.Places.{index_of, slice}
use Rattle.meaning.specs.Choice.{if_lt}

abbrev pub row_of : List ℕ → ℕ → List ℕ
row_of names a = slice (a * 256) (a * 256 + 256) names

unfoldable pub name_in : List ℕ → ℕ → List ℕ
name_in names a = if_lt (length names) (a * 256 + 256) [] (take (index_of 0 (row_of names a)) (row_of names a))
