-- The bytes of a row (src/bytes.rt): each byte by its atom, the row written byte by byte over the buffer, and what is read from one.
use mathlib.Core.Path.{◌≡◌, refl, sym, ◌∙◌}
use mathlib.Core.Bool.{Bool, true, false}
use mathlib.Core.List.{List}
use Prim.Native.Nat.{ℕ, ◌+◌, ◌≤◌, ◌<◌}
use native.Mathlib.Nat.{zero-add, le_antisymm}
use native.Mathlib.Omega.{arith}
use lib.ListN.{length, get_or, set, get_or-eq_default}
use lib.Seq.{paste}
use mir.Val.{bool_byte}
use Rattle.meaning.specs.declared.AtomNo.{AtomNo}
use Rattle.meaning.specs.Choice.{ifb}
use Rattle.book.specs.Tables.{atoms_in}
use Rattle.meaning.specs.Buffers.{write_at}
use Rattle.meaning.proofs.Buffers.{write-turn, write_done}
use Rattle.walk.specs.Run.{row_from}
use Rattle.walk.specs.Page.{set_in}
use Rattle.walk.proofs.Rows.{row-from-length, row-from-at}

-- the row of a table's first n atoms
abbrev pub table_row : ℕ → List Bool → List ℕ
table_row n l = row_from 0 n (atoms_in l)

module _ (l : List Bool) (n at : ℕ) (out : List ℕ) where
  pub row-turn : {a v : ℕ} {w : List ℕ} → at + n ≤ length out → a < n → v ≡ ifb (get_or l a false) 1 0 → w ≡ paste out at (table_row n l) a
      → set w (at + a) v ≡ paste out at (table_row n l) (a + 1)
  unfolding atoms_in
  row-turn {a} {v} h k e f =
      let g : v ≡ get_or (table_row n l) a 0 = e ∙ sym (row-from-at 0 n (atoms_in l) a k ∙ rw zero-add) in
      let m = row-from-length 0 n (atoms_in l) in
      write-turn at (table_row n l) out (omega arith) (omega arith) g f

  pub row_written : {a : ℕ} {w : List ℕ} → a ≤ n → n ≤ a → w ≡ paste out at (table_row n l) a → w ≡ write_at at (table_row n l) out
  row_written {a} h k e = write_done at (table_row n l) out (le_antisymm h k ∙ sym (row-from-length 0 n (atoms_in l))) e

-- the byte of one atom
pub byte-of : (inside : Bool) → bool_byte inside ≡ ifb inside 1 0
unfolding ifb
byte-of true = refl
byte-of false = refl

-- a byte past the row's end says no
pub row-past : (row : List ℕ) (a : AtomNo) → length row ≤ a.0 → false ≡ set_in row a
unfolding set_in
row-past row a h = rw (get_or-eq_default row 0 h)
