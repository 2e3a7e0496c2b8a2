-- The searches for the lowest rule of a kind, turn by turn: what is kept is that no rule before is of that kind. And how a search tells
-- whether one rule is: for 41 and 42 it is, if it passes a test and isn't in an array yet.
use mathlib.Core.Path.{◌≡◌, refl, sym, ◌∙◌, ap}
use mathlib.Core.Logic.{⊎_elim}
use mathlib.Core.Bool.{Bool, true, false, not}
use mathlib.Core.List.{List}
use Prim.Native.Nat.{ℕ, ◌+◌, ◌≤◌, ◌<◌}
use native.Mathlib.Nat.{eq-or-lt_of_le}
use native.Mathlib.Omega.{arith}
use Rattle.meaning.specs.declared.RuleNo.{RuleNo}
use Rattle.meaning.specs.Sets.{◌∉◌}
use Rattle.meaning.specs.Books.{Rules, rule_no, Book, count}
use Rattle.meaning.specs.Lowest.{lowest, none, one}
use Rattle.meaning.specs.Written.{of}
use Rattle.meaning.specs.Engine.{less}
use Rattle.meaning.proofs.Tests.{both, not_first, not-second}
use Rattle.meaning.proofs.Lowest.{none-lowest, one-lowest}
use Rattle.writer.specs.Steps.{new_on, new_off, may_by, new_by}
use Rattle.meaning.specs.Colours.{Side, on_side, off_side}

-- no rule below n is in s
pub record NoneBelow (s : Rules) (n : ℕ) : Type 0 where
  pub lower : (r : RuleNo) → r.0 < n → r ∉ s

module _ (s : Rules) where
  module _ {n : ℕ} (none_before : NoneBelow s n) where
    pub none_more : s (rule_no n) ≡ false → NoneBelow s (n + 1)
    none_more t = record { lower = λ r h. let l : r.0 ≤ n = omega arith in ⊎_elim (here r) (none_before.lower r) (eq-or-lt_of_le l) }
      where
        here : (r : RuleNo) → r.0 ≡ n → r ∉ s
        here r e = let f : r ≡ rule_no n = λ i. record { 0 = e i } in rw f t

    pub none_found : (b : Book) {m : ℕ} → count b ≡ m → n < m → s (rule_no n) ≡ true → one (rule_no n) ≡ lowest b s
    none_found b e h t = sym (one-lowest b s (rule_no n) (omega arith) t none_before.lower)

    pub none_at_all : (b : Book) {m : ℕ} → count b ≡ m → m ≤ n → none ≡ lowest b s
    none_at_all b e h = sym (none-lowest b s (λ r l. none_before.lower r (omega arith)))

-- ---- a test, and not in the array yet

-- s holds the rules that pass t and aren't in l
pub record Sifts (s t : Rules) (l : List Bool) : Type 0 where
  pub is : (r : RuleNo) → s r ≡ less t (of l) r

module _ {s t : Rules} {l : List Bool} (sifts : Sifts s t l) {r : ℕ} where
  pub sifts-yes : {x : Bool} → x ≡ t (rule_no r) → x ≡ true → of l (rule_no r) ≡ false → s (rule_no r) ≡ true
  sifts-yes f y o = sifts.is _ ∙ both (sym f ∙ y) (ap not o)

  pub sifts-not : {x : Bool} → x ≡ t (rule_no r) → x ≡ false → s (rule_no r) ≡ false
  sifts-not f n = sifts.is _ ∙ not_first _ (sym f ∙ n)

  pub sifts-in : of l (rule_no r) ≡ true → s (rule_no r) ≡ false
  sifts-in o = sifts.is _ ∙ not-second (t (rule_no r)) (ap not o)

-- 41 and 42
pub new-sifts : (x : Side) (b : Book) (headed lost set : List Bool) → Sifts (new_by x b headed lost set) (may_by x b headed lost) set
unfolding new_by may_by new_on new_off
new-sifts on_side b headed lost on = record { is = λ r. refl }
new-sifts off_side b headed lost off = record { is = λ r. refl }
