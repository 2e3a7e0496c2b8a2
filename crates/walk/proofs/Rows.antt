-- Laws of rows (specs/Run, specs/Page): how long they are, that rows written one after the other are one piece, and that the set of a
-- reading is read back from its row.
use mathlib.Core.Path.{◌≡◌, refl, sym, ◌∙◌, ap, fun_ext}
use mathlib.Core.Logic.{⊎_elim}
use mathlib.Core.Bool.{Bool, true, false}
use mathlib.Core.List.{List, [], ◌∷◌, ◌++◌, append-nil, append_assoc}
use Prim.Native.Nat.{ℕ, zero, suc, ◌+◌, ◌*◌, ◌<◌}
use native.Mathlib.Nat.{zero-add, add-zero, add-suc, suc-add, suc-mul, zero-mul, le_of_suc-le-suc}
use native.Mathlib.Omega.{arith}
use lib.Dec.{eqb}
use lib.ListN.{length, get_or, take, drop, length-append, get_or-eq_default}
use lib.Seq.{take_at, drop_at}
use Rattle.meaning.specs.Books.{Atoms, atom_no, Book}
use Rattle.meaning.specs.Choice.{ifb}
use Rattle.meaning.proofs.Tests.{lt-or-le, refuted}
use Rattle.meaning.proofs.LeastModel.{Inside}
use Rattle.walk.specs.Run.{row_from, row_of}
use Rattle.walk.specs.Page.{set_in}

-- ---- one row

pub row-from-length : (i n : ℕ) (x : Atoms) → length (row_from i n x) ≡ n
unfolding row_from
row-from-length i zero x = refl
row-from-length i (suc n) x = rw (row-from-length (suc i) n x)

pub row-from-at : (i n : ℕ) (x : Atoms) (j : ℕ) → j < n → get_or (row_from i n x) j 0 ≡ ifb (x (atom_no (i + j))) 1 0
unfolding row_from
row-from-at i zero x j h = absurd (omega arith)
row-from-at i (suc n) x zero h = rw add-zero
row-from-at i (suc n) x (suc j) h = rw (add-suc, ← suc-add i j) (row-from-at (suc i) n x j (le_of_suc-le-suc h))

pub one-is : (t : Bool) → eqb (ifb t 1 0) 1 ≡ t
unfolding ifb
one-is true = refl
one-is false = refl

module _ (b : Book) (x : Atoms) where
  pub row-length : length (row_of b x) ≡ b.atoms
  unfolding row_of
  row-length = row-from-length 0 b.atoms x

  pub row_at : (j : ℕ) → j < b.atoms → get_or (row_of b x) j 0 ≡ ifb (x (atom_no j)) 1 0
  unfolding row_of
  row_at j h = row-from-at 0 b.atoms x j h ∙ ap (λ (n : ℕ). ifb (x (atom_no n)) 1 0) (zero-add j)

  -- a set of the book's atoms is read back from its row
  pub set-in-row : Inside b x → set_in (row_of b x) ≡ x
  unfolding set_in
  set-in-row inside = fun_ext (λ a. ⊎_elim
      (λ h. ap (λ (n : ℕ). eqb n 1) (row_at a.0 h) ∙ one-is (x a))
      (λ h. ap (λ (n : ℕ). eqb n 1) (get_or-eq_default (row_of b x) 0 (rw row-length h)) ∙ sym (refuted (λ m. omega (arith, inside a m))))
      (lt-or-le a.0 b.atoms))

-- ---- rows one after the other

unfoldable pub rows_of : Book → List Atoms → List ℕ
rows_of b [] = []
rows_of b (x ∷ l) = row_of b x ++ rows_of b l

pub rows-length : (b : Book) (l : List Atoms) → length (rows_of b l) ≡ length l * b.atoms
unfolding rows_of
rows-length b [] = sym (zero-mul b.atoms)
rows-length b (x ∷ l) = rw suc-mul (omega (arith, length-append (row_of b x) (rows_of b l), row-length b x, rows-length b l))

rows_last : (b : Book) (l : List Atoms) (x : Atoms) → rows_of b (l ++ (x ∷ [])) ≡ rows_of b l ++ row_of b x
unfolding rows_of
rows_last b [] x = append-nil (row_of b x)
rows_last b (y ∷ l) x = rw (rows_last b l x, append_assoc (row_of b y) (rows_of b l) (row_of b x))

-- the last of some rows, with any bytes behind it
pub last_row-behind : (b : Book) (l : List Atoms) (x : Atoms) (bytes : List ℕ)
    → take b.atoms (drop (length l * b.atoms) (rows_of b (l ++ (x ∷ [])) ++ bytes)) ≡ row_of b x
last_row-behind b l x bytes =
    rw (rows_last b l x, append_assoc (rows_of b l) (row_of b x) bytes, drop_at (rows_of b l) (row_of b x ++ bytes) _ (rows-length b l))
    (take_at (row_of b x) bytes _ (row-length b x))
