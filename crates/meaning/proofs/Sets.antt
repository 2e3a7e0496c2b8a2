-- Laws of sets as tests: what every and some say of the members of a list or of the numbers below a bound, and back; what carries
-- them from one set to another; and what a search that goes up by one keeps.
use mathlib.Core.Path.{◌≡◌, refl, sym}
use mathlib.Core.Logic.{◌⊎◌, ⊎_elim}
use mathlib.Core.Bool.{true, false, ◌&&◌, ◌||◌, false≢true, or_assoc, and_assoc}
use mathlib.Core.List.{List, [], ◌∷◌, ◌++◌, Memᴰ}
use Prim.Native.Nat.{ℕ, zero, suc, ◌+◌, ◌≤◌, ◌<◌}
use native.Mathlib.Nat.{not-suc-le-zero, lt-suc_self, eq-or-lt_of_le, le_of_suc-le-suc, le_antisymm}
use native.Mathlib.Numerals.{add-one}
use native.Mathlib.Omega.{arith}
use lib.ListN.{length, get_or, take}
use lib.Seq.{take-suc, take_all}
use Rattle.meaning.specs.Sets.{Set, ◌∈◌, ◌∉◌, ◌⊆◌, every, some, every_below, some_below}
use Rattle.meaning.proofs.Tests.{both, and_left, and_right, not_first, not-second}
use Rattle.meaning.proofs.Tests.{either, or_left, or_right, neither, neither_left, neither_right, decided}

-- ---- the members of a list

module _ {A : Type 0} (s : Set A) where
  pub every-at : (l : List A) → every s l ≡ true → (a : A) → Memᴰ a l → a ∈ s
  unfolding every
  every-at [] e a h = elim h [ ]
  every-at (x ∷ l) e a (Memᴰ.head p) = rw p (and_left (s x) _ e)
  every-at (x ∷ l) e a (Memᴰ.tail m) = every-at l (and_right (s x) _ e) a m

  pub every-all : (l : List A) → ((a : A) → Memᴰ a l → a ∈ s) → every s l ≡ true
  unfolding every
  every-all [] f = refl
  every-all (x ∷ l) f = both (f x (Memᴰ.head refl)) (every-all l (λ a m. f a (Memᴰ.tail m)))

  pub some_one : (l : List A) (a : A) → Memᴰ a l → a ∈ s → some s l ≡ true
  unfolding some
  some_one [] a h e = elim h [ ]
  some_one (x ∷ l) a (Memᴰ.head p) e = or_left _ (rw p at e)
  some_one (x ∷ l) a (Memᴰ.tail m) e = or_right (s x) (some_one l a m e)

  pub some-by : (l : List A) → some s l ≡ true → (a : A) × Memᴰ a l × (a ∈ s)
  unfolding some
  some-by [] e = absurd (false≢true e)
  some-by (x ∷ l) e =
      ⊎_elim (λ p. (x, Memᴰ.head refl, p)) (λ p. let (a, m, q) = some-by l p in (a, Memᴰ.tail m, q)) (either (s x) _ e)

-- ---- from one set to another

module _ {A : Type 0} {s t : Set A} where
  pub every-mono : s ⊆ t → (l : List A) → every s l ≡ true → every t l ≡ true
  unfolding every
  every-mono h [] e = refl
  every-mono h (x ∷ l) e = both (h x (and_left (s x) _ e)) (every-mono h l (and_right (s x) _ e))

  pub some_mono : s ⊆ t → (l : List A) → some s l ≡ true → some t l ≡ true
  unfolding some
  some_mono h [] e = e
  some_mono h (x ∷ l) e = ⊎_elim (λ p. or_left _ (h x p)) (λ p. or_right (t x) (some_mono h l p)) (either (s x) _ e)

  -- t holds what s does not
  pub every-of-none : ((i : A) → i ∉ s → i ∈ t) → (l : List A) → some s l ≡ false → every t l ≡ true
  unfolding every some
  every-of-none h [] e = refl
  every-of-none h (x ∷ l) e = both (h x (neither_left (s x) _ e)) (every-of-none h l (neither_right (s x) _ e))

  pub some-of-not-every : ((i : A) → i ∉ s → i ∈ t) → (l : List A) → every s l ≡ false → some t l ≡ true
  unfolding every some
  some-of-not-every h [] e = sym e
  some-of-not-every h (x ∷ l) e =
      ⊎_elim (λ p. or_right (t x) (some-of-not-every h l (rw p at e))) (λ p. or_left _ (h x p)) (decided (s x))

  -- t holds nothing that s holds
  pub none-of-every : ((i : A) → i ∈ s → i ∉ t) → (l : List A) → every s l ≡ true → some t l ≡ false
  unfolding every some
  none-of-every h [] e = refl
  none-of-every h (x ∷ l) e = neither (h x (and_left (s x) _ e)) (none-of-every h l (and_right (s x) _ e))

  pub not-every-of-some : ((i : A) → i ∈ s → i ∉ t) → (l : List A) → some s l ≡ true → every t l ≡ false
  unfolding every some
  not-every-of-some h [] e = sym e
  not-every-of-some h (x ∷ l) e =
      ⊎_elim (λ p. not_first _ (h x p)) (λ p. not-second (t x) (not-every-of-some h l p)) (either (s x) _ e)

-- ---- numbers below n

last : (i n : ℕ) → i < suc n → (i ≡ n) ⊎ (i < n)
last i n h = eq-or-lt_of_le (le_of_suc-le-suc h)

pub below_at : (n : ℕ) (s : Set ℕ) → every_below n s ≡ true → (i : ℕ) → i < n → i ∈ s
unfolding every_below
below_at zero s e i h = absurd (not-suc-le-zero h)
below_at (suc n) s e i h = ⊎_elim (λ p. rw p (and_left (s n) _ e)) (below_at n s (and_right (s n) _ e) i) (last i n h)

pub below_all : (n : ℕ) (s : Set ℕ) → ((i : ℕ) → i < n → i ∈ s) → every_below n s ≡ true
unfolding every_below
below_all zero s h = refl
below_all (suc n) s h = both (h n (lt-suc_self n)) (below_all n s (λ i k. h i (omega arith)))

pub below-some : (n : ℕ) (s : Set ℕ) → some_below n s ≡ true → (i : ℕ) × (i < n) × (i ∈ s)
unfolding some_below
below-some zero s e = absurd (false≢true e)
below-some (suc n) s e =
    ⊎_elim (λ p. (n, lt-suc_self n, p)) (λ p. let (i, k, m) = below-some n s p in (i, omega arith, m)) (either (s n) _ e)

pub below_one : (n : ℕ) (s : Set ℕ) (i : ℕ) → i < n → i ∈ s → some_below n s ≡ true
unfolding some_below
below_one zero s i h e = absurd (not-suc-le-zero h)
below_one (suc n) s i h e =
    ⊎_elim (λ (p : i ≡ n). or_left _ (rw p at e)) (λ p. or_right (s n) (below_one n s i p e)) (last i n h)

-- ---- a search that goes up by one

pub none-next : (i : ℕ) (s : Set ℕ) → i ∉ s → some_below i s ≡ false → some_below (i + 1) s ≡ false
unfolding some_below
none-next i s n e = rw add-one (neither n e)

pub none_end : (i n : ℕ) (s : Set ℕ) → i ≤ n → n ≤ i → some_below i s ≡ false → some_below n s ≡ false
none_end i n s h k e = rw (← le_antisymm h k) e

pub all-next : (i : ℕ) (s : Set ℕ) → i ∈ s → every_below i s ≡ true → every_below (i + 1) s ≡ true
unfolding every_below
all-next i s m e = rw add-one (both m e)

pub all_end : (i n : ℕ) (s : Set ℕ) → i ≤ n → n ≤ i → every_below i s ≡ true → every_below n s ≡ true
all_end i n s h k e = rw (← le_antisymm h k) e

-- ---- the same over a list, of which the first i are done

module _ {A : Type 0} (s : Set A) where
  pub some-append : (l m : List A) → some s (l ++ m) ≡ (some s l || some s m)
  unfolding some
  some-append [] m = refl
  some-append (x ∷ l) m = rw (some-append l m) (sym (or_assoc (s x) (some s l) (some s m)))

  pub every_append : (l m : List A) → every s (l ++ m) ≡ (every s l && every s m)
  unfolding every
  every_append [] m = refl
  every_append (x ∷ l) m = rw (every_append l m) (sym (and_assoc (s x) (every s l) (every s m)))

  pub some-here : (l : List A) (i : ℕ) (d : A) → i < length l → get_or l i d ∈ s → some s l ≡ true
  unfolding some
  some-here [] i d h m = absurd (not-suc-le-zero h)
  some-here (x ∷ l) zero d h m = or_left _ m
  some-here (x ∷ l) (suc i) d h m = or_right (s x) (some-here l i d (le_of_suc-le-suc h) m)

  pub every_here : (l : List A) (i : ℕ) (d : A) → i < length l → get_or l i d ∉ s → every s l ≡ false
  unfolding every
  every_here [] i d h m = absurd (not-suc-le-zero h)
  every_here (x ∷ l) zero d h m = not_first _ m
  every_here (x ∷ l) (suc i) d h m = not-second (s x) (every_here l i d (le_of_suc-le-suc h) m)

  pub every-all-next : (l : List A) (i : ℕ) (d : A) → i < length l → get_or l i d ∈ s → every s (take i l) ≡ true
      → every s (take (i + 1) l) ≡ true
  unfolding every
  every-all-next l i d h m e = rw (add-one, take-suc l i d, every_append) (both e (both m refl))

  pub every-all-end : (l : List A) (i : ℕ) → length l ≤ i → every s (take i l) ≡ true → every s l ≡ true
  every-all-end l i h e = rw (take_all i l) at e
