-- Names and their numbers: bytes compared, and the turns of the loop that looks for a name.
use mathlib.Core.Path.{◌≡◌, refl, sym}
use mathlib.Core.Logic.{⊎_elim}
use mathlib.Core.Bool.{Bool, true, false}
use mathlib.Core.List.{List, [], ◌∷◌}
use Prim.Native.Nat.{ℕ, zero, suc, ◌+◌, ◌-◌, ◌<◌, ◌≤◌}
use native.Mathlib.Nat.{eq-or-lt_of_le}
use native.Mathlib.Numerals.{add-one}
use native.Mathlib.Omega.{arith}
use lib.Dec.{eqb}
use borrow.Author.Tests.{eqb-true, eq-eqb}
use Rattle.std.specs.Prelude.{Some, None}
use Rattle.meaning.specs.Sets.{Set, ◌∈◌, ◌∉◌}
use Rattle.meaning.specs.Books.{atom_no}
use Rattle.meaning.proofs.Choice.{b-yes, b-no, b-either, lt_yes, lt_no}
use Rattle.meaning.proofs.Tests.{both, and_left, and_right, decided, same, true-and-false}
use Rattle.words.specs.Names.{same_bytes, first_from, place_of, whose_of}

-- ---- bytes

pub bytes-refl : (l : List ℕ) → same_bytes l l ≡ true
unfolding same_bytes
bytes-refl [] = refl
bytes-refl (x ∷ l) = both (eq-eqb x x refl) (bytes-refl l)

pub bytes-equal : (k l : List ℕ) → same_bytes k l ≡ true → k ≡ l
unfolding same_bytes
bytes-equal [] [] e = refl
bytes-equal [] (y ∷ l) e = true-and-false e refl
bytes-equal (x ∷ k) [] e = true-and-false e refl
bytes-equal (x ∷ k) (y ∷ l) e =
    let h : x ≡ y = eqb-true x y (and_left (eqb x y) (same_bytes k l) e) in
    let t : k ≡ l = bytes-equal k l (and_right (eqb x y) (same_bytes k l) e) in
    rw (h, t) refl

pub bytes-told : (r : Bool) (k l : List ℕ) → (r ≡ true → k ≡ l) → (k ≡ l → r ≡ true) → r ≡ same_bytes k l
bytes-told r k l f g = same r (same_bytes k l) (λ e. rw (f e) (bytes-refl l)) (λ e. g (bytes-equal k l e))

-- ---- the search

module _ (n : ℕ) (s : Set ℕ) where
  pub first-begun : first_from 0 n s ≡ first_from 0 (n - 0) s
  first-begun = let e : n - 0 ≡ n = omega arith in rw e refl

  module _ (i : ℕ) where
    left_over : i < n → n - i ≡ suc (n - (i + 1))
    left_over h = omega arith

    pub first-here : i < n → i ∈ s → first_from i (n - i) s ≡ i
    unfolding first_from
    first-here h e = rw (left_over h) (b-yes _ _ _ e)

    pub first-turn : i < n → i ∉ s → first_from i (n - i) s ≡ first_from (i + 1) (n - (i + 1)) s
    unfolding first_from
    first-turn h e = rw (left_over h, add-one i) (b-no _ _ _ e)

    pub first-over : n ≤ i → i ≤ n → first_from i (n - i) s ≡ n
    unfolding first_from
    first-over h k = let e : n - i ≡ 0 = omega arith in let f : i ≡ n = omega arith in rw e f

pub first-within : (i n : ℕ) (s : Set ℕ) → first_from i n s ≤ i + n
unfolding first_from
first-within i zero s = omega arith
first-within i (suc n) s = b-either (λ k. k ≤ i + suc n) (s i) _ _ (λ e. omega arith) (λ e. omega (arith, first-within (suc i) n s))

pub first-same : (i n : ℕ) (s z : Set ℕ) → ((j : ℕ) → i ≤ j → j < i + n → s j ≡ z j) → first_from i n s ≡ first_from i n z
unfolding first_from
first-same i zero s z f = refl
first-same i (suc n) s z f =
    rw (f i (omega arith) (omega arith), first-same (suc i) n s z (λ j h k. f j (omega arith) (omega arith))) refl

pub first_found : (i n : ℕ) (s : Set ℕ) → first_from i n s < i + n → first_from i n s ∈ s
unfolding first_from
first_found i zero s = λ h. absurd (omega arith)
first_found i (suc n) s =
    b-either (λ k. k < i + suc n → k ∈ s) (s i) _ _ (λ e h. e) (λ e h. first_found (suc i) n s (omega arith))

-- where the search finds none there is none
pub first-none : (i n : ℕ) (s : Set ℕ) → i + n ≤ first_from i n s → (j : ℕ) → i ≤ j → j < i + n → j ∉ s
unfolding first_from
first-none i zero s h j k l = absurd (omega arith)
first-none i (suc n) s h j k l = ⊎_elim
    (λ (e : s i ≡ true). let f = b-yes (s i) i (first_from (suc i) n s) e in absurd (omega arith))
    (λ (e : s i ≡ false). let f = b-no (s i) i (first_from (suc i) n s) e in
    ⊎_elim (λ (p : i ≡ j). rw (← p) e) (λ p. first-none (suc i) n s (omega arith) j p (omega arith)) (eq-or-lt_of_le k))
    (decided (s i))

-- ---- whose name a word is

module _ (s : List ℕ) (n : ℕ) (from to l : List ℕ) (i : ℕ) (e : i ≡ place_of s n from to l) where
  pub whose-atom : i < n → Some (atom_no i) ≡ whose_of s n from to l
  unfolding whose_of
  whose-atom h = rw e (sym (lt_yes _ _ _ _ (rw e at h)))

  pub whose-nothing : n ≤ i → None ≡ whose_of s n from to l
  unfolding whose_of
  whose-nothing h = sym (lt_no _ _ _ _ (rw e at h))
