-- What the conditions on one rule mean: asked by the tables of the heads of the on rules and of the atoms all of whose rules are off,
-- they are the conditions of document 01, "Colours and closing". The atoms of a good book are below 255, so a table answers for each.
use mathlib.Core.Path.{◌≡◌, refl}
use mathlib.Core.Bool.{Bool, ◌&&◌}
use mathlib.Core.List.{List, [], ◌∷◌, Memᴰ}
use Prim.Native.Nat.{ℕ, ◌<◌}
use native.Mathlib.Omega.{arith}
use Rattle.meaning.specs.declared.AtomNo.{AtomNo}
use Rattle.meaning.specs.declared.RuleNo.{RuleNo}
use Rattle.meaning.specs.Sets.{every, some}
use Rattle.meaning.specs.Books.{Atoms, rule}
use Rattle.meaning.specs.Colours.{Pair, heads, all_in, may_on, blocked}
use Rattle.book.specs.declared.reader.Shape.{Shape}
use Rattle.book.specs.Format.{book_in, ReadAs}
use Rattle.book.specs.Tables.{atom_table, atoms_in}
use Rattle.book.proofs.AtomSets.{table-in}
use Rattle.book.proofs.Places.{rule-keeps}

-- a list of atoms that have a place in a table
module _ (x : Atoms) where
  pub every-table : (l : List AtomNo) → ((a : AtomNo) → Memᴰ a l → a.0 < 255) → every (atoms_in (atom_table x)) l ≡ every x l
  unfolding every
  every-table [] f = refl
  every-table (a ∷ l) f =
      rw (table-in x a (f a (Memᴰ.head refl)), every-table l (λ c m. f c (Memᴰ.tail m)))

  pub some-table : (l : List AtomNo) → ((a : AtomNo) → Memᴰ a l → a.0 < 255) → some (atoms_in (atom_table x)) l ≡ some x l
  unfolding some
  some-table [] f = refl
  some-table (a ∷ l) f =
      rw (table-in x a (f a (Memᴰ.head refl)), some-table l (λ c m. f c (Memᴰ.tail m)))

-- rule r of a good book whose atom count is a byte
module _ (s : List ℕ) (h : Shape) (e : ReadAs s h) (n : h.atoms < 256) (r : RuleNo) (l : r.0 < h.rules) where
  pub pos-small : (a : AtomNo) → Memᴰ a (rule (book_in s) r).pos → a.0 < 255
  pos-small a m = omega (arith, (rule-keeps s h e r l).pos.below a m)

  pub neg_small : (a : AtomNo) → Memᴰ a (rule (book_in s) r).neg → a.0 < 255
  neg_small a m = omega (arith, (rule-keeps s h e r l).neg.below a m)

  -- a pair of sets of rules, and the heads of its on rules
  module _ (c : Pair) (headed : List Bool) (f : headed ≡ atom_table (heads (book_in s) c.on)) where
    pub goes-on-may_on : (lost : List Bool) → lost ≡ atom_table (all_in (book_in s) c.off)
        → (every (atoms_in headed) (rule (book_in s) r).pos && every (atoms_in lost) (rule (book_in s) r).neg) ≡ may_on (book_in s) c r
    unfolding may_on
    goes-on-may_on lost g = rw (f, g, every-table _ _ pos-small, every-table _ _ neg_small)

    pub is-blocked-blocked : some (atoms_in headed) (rule (book_in s) r).neg ≡ blocked (book_in s) c r
    unfolding blocked
    is-blocked-blocked = rw (f, some-table _ _ neg_small)
