-- The search of src/colours.rt for a rule in neither set: among the first rules, what is left of them without the two sets is what has no
-- colour.
use mathlib.Core.Path.{◌≡◌, refl, sym, ap, ap₂, ◌∙◌}
use mathlib.Core.Bool.{Bool, not, ◌&&◌, ◌||◌}
use mathlib.Core.List.{List}
use Prim.Native.Nat.{ℕ, zero, suc, ◌+◌, ◌<◌}
use native.Mathlib.Omega.{arith}
use borrow.Author.Tests.{lt-ltb}
use Rattle.meaning.specs.declared.RuleNo.{RuleNo}
use Rattle.meaning.specs.Sets.{Set}
use Rattle.meaning.specs.Books.{Rules, rule_no}
use Rattle.meaning.specs.Bits.{below, plus, less, members, listed}
use Rattle.meaning.specs.Colours.{uncoloured}
use Rattle.meaning.specs.Written.{of, lent}
use Rattle.meaning.specs.Lowest.{Pick, one_or, lowest_from}
use Rattle.meaning.proofs.Listed.{of-listed}

-- sets that agree on the first rules have the same lowest one there
lowest-same : (i n : ℕ) (s t : Rules) → ((r : RuleNo) → r.0 < i + n → s r ≡ t r) → lowest_from i n s ≡ lowest_from i n t
unfolding lowest_from
lowest-same i zero s t f = refl
lowest-same i (suc n) s t f =
    ap₂ (λ (x : Bool) (p : Pick). one_or x (rule_no i) p) (f (rule_no i) (omega arith)) (lowest-same (suc i) n s t (λ r h. f r (omega arith)))

pub free-lowest : (n : ℕ) (w all v on off : List ℕ) → members all ≡ below n → members v ≡ plus (members on) (members off)
    → members w ≡ less (members all) (members v)
    → lowest_from 0 n (of (listed w)) ≡ lowest_from 0 n (uncoloured (lent (listed on) (listed off)))
unfolding uncoloured
free-lowest n w all v on off e f g = lowest-same 0 n (of (listed w)) _ (λ r h.
    let z = lt-ltb r.0 n (omega arith) in
    ap (λ (s : Rules). s r) (of-listed w) ∙ ap (λ (s : Set ℕ). s r.0) g
    ∙ ap₂ (λ (s t : Set ℕ). s r.0 && not (t r.0)) e f
    ∙ rw z (sym (ap₂ (λ (s t : Rules). not (s r || t r)) (of-listed on) (of-listed off))))
