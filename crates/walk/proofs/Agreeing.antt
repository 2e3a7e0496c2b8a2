-- The comparison of src/resume.rt: all atoms of a part are in a row's set, or all outside it. And so whether a rule generates the set.
use mathlib.Core.Path.{◌≡◌, refl, sym, ◌∙◌, ap}
use mathlib.Core.Logic.{⊎_elim}
use mathlib.Core.Bool.{Bool, true, false, not}
use mathlib.Core.List.{List, [], ◌∷◌, map}
use Prim.Native.Nat.{ℕ}
use Rattle.std.specs.Bool.{beq}
use Rattle.std.specs.List.{list_all}
use Rattle.meaning.specs.declared.AtomNo.{AtomNo}
use Rattle.meaning.specs.declared.RuleNo.{RuleNo}
use Rattle.meaning.specs.Sets.{every, some}
use Rattle.meaning.specs.Books.{Atoms, atom_no, Book, rule}
use Rattle.meaning.specs.AnswerSet.{generates, generating}
use Rattle.meaning.specs.Choice.{agree}
use Rattle.meaning.proofs.Tests.{decided, not_first}
use Rattle.meaning.proofs.Sets.{every-of-none, not-every-of-some}
use Rattle.book.specs.Writing.{atom_bytes}
use Rattle.book.proofs.Bodies.{every-part}
use Rattle.walk.specs.Page.{set_in}

-- both say yes, or both say no
agree-is : (one other : Bool) → beq other one ≡ agree one other
unfolding agree
agree-is true true = refl
agree-is true false = refl
agree-is false true = refl
agree-is false false = refl

-- the test of each byte of a part, of the atoms that the bytes are
pub every-list : (inside : Bool) (row part : List ℕ)
    → list_all (λ n. beq (set_in row (atom_no n)) inside) part ≡ every (λ a. agree inside (set_in row a)) (map atom_no part)
unfolding every
every-list inside row [] = refl
every-list inside row (n ∷ part) = rw (agree-is inside (set_in row (atom_no n)), every-list inside row part) refl

-- ---- the rules that generate a row's set

every-outside : (x : Atoms) (l : List AtomNo) → every (λ a. not (x a)) l ≡ not (some x l)
every-outside x l = ⊎_elim
    (λ e. not-every-of-some (λ a m. ap not m) l e ∙ sym (ap not e))
    (λ e. every-of-none (λ a m. ap not m) l e ∙ sym (ap not e))
    (decided (some x l))

module _ (b : Book) (row : List ℕ) (r : RuleNo) {part : List ℕ} {v : Bool} (e : part ≡ atom_bytes (rule b r).pos)
    (f : v ≡ every (λ a. agree true (set_in row a)) (map atom_no part)) where
  all-pos : v ≡ every (set_in row) (rule b r).pos
  unfolding agree
  all-pos = f ∙ every-part (set_in row) part (rule b r).pos e

  pub generates-not : v ≡ false → false ≡ generating b (set_in row) r
  unfolding generating generates
  generates-not k = sym (not_first _ (sym all-pos ∙ k))

  pub generates-if : v ≡ true → {rest : List ℕ} {w : Bool} → rest ≡ atom_bytes (rule b r).neg
      → w ≡ every (λ a. agree false (set_in row a)) (map atom_no rest) → w ≡ generating b (set_in row) r
  unfolding generating generates agree
  generates-if k {rest} g h =
      rw (sym all-pos ∙ k) (h ∙ every-part (λ a. not (set_in row a)) rest (rule b r).neg g ∙ every-outside (set_in row) (rule b r).neg)
