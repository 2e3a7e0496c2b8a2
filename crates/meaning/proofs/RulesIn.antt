-- What specs/Lowest lists: the rules of the book that are in a set and no others, in their order, each once; and the list is shorter
-- the fewer they are. By induction over the numbers that are tried.
use mathlib.Core.Path.{◌≡◌, refl}
use mathlib.Core.Logic.{◌⊎◌, inr, ⊎_elim, ⊎_map}
use mathlib.Core.Bool.{Bool, true, false, false≢true}
use mathlib.Core.List.{List, [], ◌∷◌}
use Prim.Native.Nat.{ℕ, zero, suc, ◌+◌, ◌≤◌, ◌<◌}
use native.Mathlib.Nat.{eq-or-lt_of_le}
use native.Mathlib.Omega.{arith}
use lib.ListN.{length}
use borrow.Author.Tests.{lt-ltb}
use Rattle.meaning.specs.declared.RuleNo.{RuleNo}
use Rattle.meaning.specs.Sets.{◌∈◌, ◌∉◌, some, ascending}
use Rattle.meaning.specs.Books.{Rules, rule_no, among, Book, count, InBook}
use Rattle.meaning.specs.Colours.{Under}
use Rattle.meaning.specs.Paper.{numbers}
use Rattle.meaning.specs.Lowest.{listed_if, rules_from, rules_in}
use Rattle.meaning.proofs.Tests.{both, refuted}
use Rattle.meaning.proofs.Rules.{among-here, among_there, among-front}

module _ (r : RuleNo) (l : List RuleNo) where
  listed_by : (t : Bool) (q : RuleNo) → q ∈ among (listed_if t r l) → ((t ≡ true) × (q ≡ r)) ⊎ (q ∈ among l)
  unfolding listed_if
  listed_by true q m = ⊎_map (λ e. (refl, e)) (λ k. k) (among-front r l q m)
  listed_by false q m = inr m

  listed-later : (t : Bool) (q : RuleNo) → q ∈ among l → q ∈ among (listed_if t r l)
  unfolding listed_if
  listed-later true q m = among_there r l q m
  listed-later false q m = m

  listed_here : (t : Bool) → t ≡ true → r ∈ among (listed_if t r l)
  unfolding listed_if
  listed_here true e = among-here r l
  listed_here false e = absurd (false≢true e)

rules-from : (i n : ℕ) (s : Rules) (r : RuleNo) → r ∈ among (rules_from i n s) → (i ≤ r.0) × (r.0 < i + n) × (r ∈ s)
unfolding rules_from some
rules-from i zero s r m = absurd (false≢true m)
rules-from i (suc n) s r m =
    ⊎_elim (λ (e, p). rw p (omega arith, omega arith, e))
    (λ k. let (h, l, e) = rules-from (suc i) n s r k in (omega arith, omega arith, e))
    (listed_by (rule_no i) _ (s (rule_no i)) r m)

rules-to : (i n : ℕ) (s : Rules) (r : RuleNo) → i ≤ r.0 → r.0 < i + n → r ∈ s → r ∈ among (rules_from i n s)
unfolding rules_from
rules-to i zero s r h k e = absurd (omega arith)
rules-to i (suc n) s r h k e =
    ⊎_elim (λ (p : i ≡ r.0). rw p (listed_here r _ _ e))
    (λ z. listed-later (rule_no i) _ (s (rule_no i)) r (rules-to (suc i) n s r z (omega arith) e)) (eq-or-lt_of_le h)

listed-ascending : (t : Bool) (r : RuleNo) (l : List RuleNo) → ((q : RuleNo) → q ∈ among l → r.0 < q.0)
    → ascending (numbers l) ≡ true → ascending (numbers (listed_if t r l)) ≡ true
unfolding listed_if ascending
listed-ascending true r [] f e = refl
listed-ascending true r (q ∷ l) f e = both (lt-ltb _ _ (f q (among-here q l))) e
listed-ascending false r l f e = e

rules-from-ascending : (i n : ℕ) (s : Rules) → ascending (numbers (rules_from i n s)) ≡ true
unfolding rules_from ascending
rules-from-ascending i zero s = refl
rules-from-ascending i (suc n) s =
    listed-ascending (s (rule_no i)) (rule_no i) _ (λ q m. (rules-from (suc i) n s q m).0) (rules-from-ascending (suc i) n s)

-- ---- how many they are

-- one number more is tried: a list that was k longer stays so
listed_more : (k : ℕ) (t u : Bool) (r : RuleNo) (l m : List RuleNo) → (t ≡ true → u ≡ true) → k + length l ≤ length m
    → k + length (listed_if t r l) ≤ length (listed_if u r m)
unfolding listed_if
listed_more k true true r l m f h = omega arith
listed_more k true false r l m f h = absurd (false≢true (f refl))
listed_more k false true r l m f h = omega arith
listed_more k false false r l m f h = h

listed-new : (t u : Bool) (r : RuleNo) (l m : List RuleNo) → t ≡ false → u ≡ true → length l ≤ length m
    → 1 + length (listed_if t r l) ≤ length (listed_if u r m)
unfolding listed_if
listed-new t u r l m e f h = rw (e, f) (omega arith)

-- what is in s is in t, for i, i + 1, .. , n of them
abbrev From : ℕ → ℕ → Rules → Rules → Type 0
From i n s t = (q : RuleNo) → i ≤ q.0 → q.0 < i + n → q ∈ s → q ∈ t

rules-from-more : (i n : ℕ) (s t : Rules) → From i n s t → length (rules_from i n s) ≤ length (rules_from i n t)
unfolding rules_from
rules-from-more i zero s t f = omega arith
rules-from-more i (suc n) s t f =
    let e = rules-from-more (suc i) n s t (λ q h k. f q (omega arith) (omega arith)) in
    let here = f (rule_no i) (omega arith) (omega arith) in
    omega (arith, listed_more 0 _ _ (rule_no i) (rules_from (suc i) n s) (rules_from (suc i) n t) here (omega arith))

rules-from-fewer : (i n : ℕ) (s t : Rules) → From i n s t → (r : RuleNo) → i ≤ r.0 → r.0 < i + n → r ∈ t → r ∉ s
    → 1 + length (rules_from i n s) ≤ length (rules_from i n t)
unfolding rules_from
rules-from-fewer i zero s t f r h k m e = absurd (omega arith)
rules-from-fewer i (suc n) s t f r h k m e =
    ⊎_elim (λ (p : i ≡ r.0). listed-new (s (rule_no i)) (t (rule_no i)) _ _ _ (rw p e) (rw p m) (rules-from-more (suc i) n s t later))
    (λ p.
    listed_more 1 _ _ _ _ _ (f (rule_no i) (omega arith) (omega arith)) (rules-from-fewer (suc i) n s t later r p (omega arith) m e))
    (eq-or-lt_of_le h)
  where
    later : From (suc i) n s t
    later q g l = f q (omega arith) (omega arith)

rules-from-length : (i n : ℕ) (s : Rules) → length (rules_from i n s) ≤ n
unfolding rules_from listed_if
rules-from-length i zero s = omega arith
rules-from-length i (suc n) s = go (s (rule_no i)) _ (rules-from-length (suc i) n s)
  where
    go : (t : Bool) (l : List RuleNo) → length l ≤ n → length (listed_if t (rule_no i) l) ≤ suc n
    go true l h = omega arith
    go false l h = omega arith

-- ---- the rules of the book

module _ (b : Book) (s : Rules) where
  pub rules-in : (r : RuleNo) → r ∈ among (rules_in b s) → InBook b r × (r ∈ s)
  unfolding rules_in
  rules-in r m = let (h, k, e) = rules-from 0 (count b) s r m in (omega arith, e)

  pub in-rules : (r : RuleNo) → InBook b r → r ∈ s → r ∈ among (rules_in b s)
  unfolding rules_in
  in-rules r h e = rules-to 0 (count b) s r (omega arith) (omega arith) e

  pub rules-ascending : ascending (numbers (rules_in b s)) ≡ true
  unfolding rules_in
  rules-ascending = rules-from-ascending 0 (count b) s

  pub rules-none : rules_in b s ≡ [] → (r : RuleNo) → InBook b r → r ∉ s
  unfolding some
  rules-none e r h = refuted (λ m. false≢true (rw e at (in-rules r h m)))

  pub rules-length : length (rules_in b s) ≤ count b
  unfolding rules_in
  rules-length = rules-from-length 0 (count b) s

  pub rules-more : (t : Rules) → Under b t s → length (rules_in b t) ≤ length (rules_in b s)
  unfolding rules_in
  rules-more t f = rules-from-more 0 (count b) t s (λ q g k. f q (omega arith))

  -- a set without one of the rules has fewer
  pub rules-fewer : (t : Rules) → Under b t s → (r : RuleNo) → InBook b r → r ∈ s → r ∉ t
      → length (rules_in b t) < length (rules_in b s)
  unfolding rules_in
  rules-fewer t f r h m e =
      omega (arith, rules-from-fewer 0 (count b) t s (λ q g k. f q (omega arith)) r (omega arith) (omega arith) m e)
