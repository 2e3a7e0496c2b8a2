-- Laws of the lowest rule of a kind (specs/Lowest): what is picked is in the set and no rule below it is, and none is picked only if the
-- book has none. By one induction over the numbers that are tried.
use mathlib.Core.Path.{◌≡◌, refl, ◌∙◌, subst}
use mathlib.Core.Logic.{⊎_elim, ◌↔◌}
use mathlib.Core.Bool.{Bool, true, false}
use Prim.Native.Nat.{ℕ, zero, suc, ◌+◌, ◌≤◌, ◌<◌}
use native.Mathlib.Nat.{eq-or-lt_of_le, le_antisymm}
use native.Mathlib.Omega.{arith}
use Rattle.meaning.specs.declared.RuleNo.{RuleNo}
use Rattle.meaning.specs.Sets.{◌∈◌, ◌∉◌}
use Rattle.meaning.specs.Books.{Rules, rule_no, Book, count, InBook}
use Rattle.meaning.specs.Colours.{Pair, clashing, uncoloured, Total}
use Rattle.meaning.specs.Lowest.{Pick, none, one, one_or, lowest_from, lowest, in_both, clashed}
use Rattle.meaning.proofs.Tests.{both, and_left, and_right, true-and-false, refuted, lt-or-le}
use Rattle.meaning.proofs.Rules.{clashing-by, clashing-one, uncoloured-no}

-- what is said of a set by the pick among i, i + 1, .. , n of them
abbrev Picked : Rules → ℕ → ℕ → Pick → Type 0
Picked s i n none = (r : RuleNo) → i ≤ r.0 → r.0 < i + n → r ∉ s
Picked s i n (one r) = (i ≤ r.0) × (r.0 < i + n) × (r ∈ s) × ((q : RuleNo) → i ≤ q.0 → q.0 < r.0 → q ∉ s)

-- one number more is tried first
picked_more : (s : Rules) (i n : ℕ) (t : Bool) (p : Pick) → s (rule_no i) ≡ t → Picked s (suc i) n p
    → Picked s i (suc n) (one_or t (rule_no i) p)
unfolding one_or
picked_more s i n true p e k = (omega arith, omega arith, e, λ q g h. absurd (omega arith))
picked_more s i n false none e k = λ r g h. ⊎_elim (λ z. rw (← z) e) (λ z. k r z (omega arith)) (eq-or-lt_of_le g)
picked_more s i n false (one r) e (g, h, m, k) =
    (omega arith, omega arith, m, λ q f l. ⊎_elim (λ z. rw (← z) e) (λ z. k q z l) (eq-or-lt_of_le f))

picked : (s : Rules) (i n : ℕ) → Picked s i n (lowest_from i n s)
unfolding lowest_from
picked s i zero = λ r g h. absurd (omega arith)
picked s i (suc n) = picked_more s i n (s (rule_no i)) _ refl (picked s (suc i) n)

-- the lowest of the rules below a number
module _ (n : ℕ) (s : Rules) where
  from_one : (r : RuleNo) → lowest_from 0 n s ≡ one r → (r.0 < n) × (r ∈ s) × ((q : RuleNo) → q.0 < r.0 → q ∉ s)
  from_one r e = let (g, h, m, f) = subst (Picked s 0 n) e (picked s 0 n) in (omega arith, m, λ q l. f q (omega arith) l)

  from-none : lowest_from 0 n s ≡ none → (r : RuleNo) → r.0 < n → r ∉ s
  from-none e r h = subst (Picked s 0 n) e (picked s 0 n) r (omega arith) (omega arith)

  pub none_from : ((r : RuleNo) → r.0 < n → r ∉ s) → lowest_from 0 n s ≡ none
  none_from f = go (lowest_from 0 n s) refl
    where
      go : (p : Pick) → lowest_from 0 n s ≡ p → lowest_from 0 n s ≡ none
      go none e = e
      go (one r) e = let (h, m, k) = from_one r e in true-and-false m (f r h)

  pub one_from : (r : RuleNo) → r.0 < n → r ∈ s → ((q : RuleNo) → q.0 < r.0 → q ∉ s) → lowest_from 0 n s ≡ one r
  one_from r h m f = go (lowest_from 0 n s) refl
    where
      below : (q p : RuleNo) → q ∈ s → ((u : RuleNo) → u.0 < p.0 → u ∉ s) → p.0 ≤ q.0
      below q p n k = ⊎_elim (λ g. true-and-false n (k q g)) (λ g. g) (lt-or-le q.0 p.0)

      go : (p : Pick) → lowest_from 0 n s ≡ p → lowest_from 0 n s ≡ one r
      go none e = true-and-false m (from-none e r h)
      go (one q) e =
          let (g, n, k) = from_one q e in
          let z : q.0 ≡ r.0 = le_antisymm (below r q m k) (below q r n f) in
          e ∙ (λ i. one (record { 0 = z i }))

-- the lowest of a book
module _ (b : Book) (s : Rules) where
  pub lowest-one : (r : RuleNo) → lowest b s ≡ one r → InBook b r × (r ∈ s) × ((q : RuleNo) → q.0 < r.0 → q ∉ s)
  unfolding lowest
  lowest-one = from_one (count b) s

  pub lowest-none : lowest b s ≡ none → (r : RuleNo) → InBook b r → r ∉ s
  unfolding lowest
  lowest-none = from-none (count b) s

  pub none-lowest : ((r : RuleNo) → InBook b r → r ∉ s) → lowest b s ≡ none
  unfolding lowest
  none-lowest = none_from (count b) s

  pub one-lowest : (r : RuleNo) → InBook b r → r ∈ s → ((q : RuleNo) → q.0 < r.0 → q ∉ s) → lowest b s ≡ one r
  unfolding lowest
  one-lowest = one_from (count b) s

-- no lowest rule without a colour: every rule has one
pub lowest-total : (b : Book) (c : Pair) → lowest b (uncoloured c) ≡ none → Total b c
lowest-total b c e r h = uncoloured-no b c r (lowest-none b _ e r h)

-- the rule told of a contradiction is in both sets and no lower one is; there is one exactly if the pair has a contradiction
module _ (b : Book) (c : Pair) where
  pub clashed-one : (r : RuleNo) → clashed b c ≡ one r
      → InBook b r × (r ∈ c.on) × (r ∈ c.off) × ((q : RuleNo) → q.0 < r.0 → q ∉ in_both c)
  unfolding clashed
  clashed-one r e = let (h, m, f) = lowest-one b (in_both c) r e in (h, and_left (c.on r) _ m, and_right (c.on r) _ m, f)

  pub clashed-clashing : (r : RuleNo) → clashed b c ≡ one r → clashing b c ≡ true
  clashed-clashing r e = let (h, m, n, f) = clashed-one r e in clashing-one b c r h m n

  pub clashed-none : (clashed b c ≡ none) ↔ (clashing b c ≡ false)
  unfolding clashed
  clashed-none = (
    λ e. refuted (λ t. let (r, h, m, n) = clashing-by b c t in true-and-false (both m n) (lowest-none b (in_both c) e r h)),
    λ e. none-lowest b (in_both c) (λ r h. refuted (λ m. true-and-false (clashing-one b c r h (and_left (c.on r) _ m) (and_right (c.on r) _ m)) e)),
  )
