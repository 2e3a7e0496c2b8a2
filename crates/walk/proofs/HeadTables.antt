-- A table of heads stands for the heads: in a book whose atom count is a byte every head has a place in it.
use mathlib.Core.Path.{◌≡◌, sym, ◌∙◌, fun_ext}
use mathlib.Core.Logic.{⊎_elim}
use mathlib.Core.Bool.{false}
use mathlib.Core.List.{List}
use Prim.Native.Nat.{ℕ, ◌≤◌, ◌<◌}
use native.Mathlib.Omega.{arith}
use lib.ListN.{get_or-eq_default}
use Rattle.meaning.specs.declared.AtomNo.{AtomNo}
use Rattle.meaning.specs.Books.{Atoms, Rules}
use Rattle.meaning.specs.Colours.{heads}
use Rattle.meaning.proofs.Tests.{lt-or-le, refuted}
use Rattle.meaning.proofs.Rules.{heads-by}
use Rattle.book.specs.declared.reader.Shape.{Shape}
use Rattle.book.specs.Format.{book_in, ReadAs}
use Rattle.meaning.specs.Bits.{table_from}
use Rattle.book.specs.Tables.{atom_table, atoms_in}
use Rattle.book.proofs.AtomSets.{table-in}
use Rattle.book.proofs.Places.{in-shape, head-below}

-- past its last place a table says no
table-past : (x : Atoms) (a : AtomNo) → 255 ≤ a.0 → atoms_in (atom_table x) a ≡ false
unfolding atoms_in atom_table table_from
table-past x a h = get_or-eq_default (atom_table x) false h

module _ (s : List ℕ) (h : Shape) (e : ReadAs s h) (small : h.atoms < 256) where
  no-head : (r : Rules) (a : AtomNo) → 255 ≤ a.0 → heads (book_in s) r a ≡ false
  no-head r a g = refuted (λ m.
      let (q, k, n, p) = heads-by (book_in s) r a m in
      omega (arith, head-below s h e q (in-shape s h e q k) a (sym p)))

  pub heads-read : (r : Rules) → atoms_in (atom_table (heads (book_in s) r)) ≡ heads (book_in s) r
  heads-read r = fun_ext (λ a. ⊎_elim
      (λ g. table-in (heads (book_in s) r) a g)
      (λ g. table-past (heads (book_in s) r) a g ∙ sym (no-head r a g))
      (lt-or-le a.0 255))
