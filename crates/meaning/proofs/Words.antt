-- Laws of one word as a set of bits: what and, or, not, a shift, a mask and trailing zeros do to each bit; that a word is what its bits
-- say. Each goes by induction along the digits, lowest first: bit 0 is n % 2, and bit k + 1 of n is bit k of n / 2.
use mathlib.Core.Path.{◌≡◌, refl, sym, ap, ◌∙◌}
use mathlib.Core.Logic.{◌⊎◌, inl, inr}
use mathlib.Core.Bool.{true, false, not, ◌||◌, ◌&&◌}
use Prim.Native.Nat.{ℕ, zero, suc, ◌<◌, ◌≤◌, ◌+◌, ◌-◌, ◌*◌, ◌/◌, ◌%◌, ◌^◌, min, max}
use native.Mathlib.Nat.{not-suc-le-zero, div-div-eq-div-mul, pow-succ', mod-eq_of_lt, one-mul, div-one}
use native.Mathlib.Decide.{ℕ_discrete}
use native.Mathlib.Omega.{arith}
use lib.Dec.{eqb, ltb}
use lib.Pow.{pow_pos, pow-lt, pow-add}
use lib.Bits.{bit_and, bit_or, or_step, and_step, or_shr, and_shr, or_add_and, and_le_l, and_le_r}
use lib.Count.{count_trailing_zeros}
use borrow.Author.Tests.{eq-eqb, ne_eqb, ltb-true, lt-ltb, le-ltb}
use Rattle.meaning.specs.Sets.{◌∉◌}
use Rattle.meaning.proofs.Tests.{true-and-false, same}
use Rattle.meaning.specs.Bits.{bit, Lowers, OnesBelow}

-- ---- digits

digit : (n : ℕ) → (n % 2 ≡ 0) ⊎ (n % 2 ≡ 1)
digit n = elim (ℕ_discrete (n % 2) 0) [ yes e ↦ inl e | no ne ↦ inr (omega arith) ]

pub bit-zero : (n : ℕ) → bit n 0 ≡ eqb (n % 2) 1
unfolding bit
bit-zero n = ap (λ (m : ℕ). eqb (m % 2) 1) (div-one n)

pub bit-suc : (n k : ℕ) → bit n (suc k) ≡ bit (n / 2) k
unfolding bit
bit-suc n k = ap (λ (m : ℕ). eqb (m % 2) 1) (ap (λ (m : ℕ). n / m) (pow-succ' 2 k) ∙ sym (div-div-eq-div-mul n 2 (2 ^ k)))

pub bit-none : (k : ℕ) → bit 0 k ≡ false
bit-none zero = bit-zero 0
bit-none (suc k) = bit-suc 0 k ∙ bit-none k

-- a word without bits is 0
pub no_bits : (n x : ℕ) → x < 2 ^ n → ((k : ℕ) → k < n → k ∉ bit x) → x ≡ 0
no_bits zero x l h = omega arith
no_bits (suc n) x l h =
    let e = no_bits n (x / 2) (omega arith) (λ k m. sym (bit-suc x k) ∙ h (suc k) (omega arith)) in
    elim (digit x) [ inl d ↦ omega arith | inr d ↦ true-and-false (bit-zero x ∙ rw d) (h 0 (omega arith)) ]

-- a word is what its bits say
pub same_bits : (n x y : ℕ) → x < 2 ^ n → y < 2 ^ n → ((k : ℕ) → k < n → bit x k ≡ bit y k) → x ≡ y
same_bits zero x y l m h = omega arith
same_bits (suc n) x y l m h =
    let e = same_bits n (x / 2) (y / 2) (omega arith) (omega arith) (λ k g. sym (bit-suc x k) ∙ h (suc k) (omega arith) ∙ bit-suc y k) in
    let f = sym (bit-zero x) ∙ h 0 (omega arith) ∙ bit-zero y in
    go e f (digit x) (digit y)
  where
    go : x / 2 ≡ y / 2 → eqb (x % 2) 1 ≡ eqb (y % 2) 1 → (x % 2 ≡ 0) ⊎ (x % 2 ≡ 1) → (y % 2 ≡ 0) ⊎ (y % 2 ≡ 1) → x ≡ y
    go e f (inl a) (inl b) = omega arith
    go e f (inl a) (inr b) = true-and-false (f ∙ rw b) (rw a)
    go e f (inr a) (inl b) = true-and-false (rw a) (f ∙ rw b)
    go e f (inr a) (inr b) = omega arith

-- a word below 2 ^ n has no bit from n on
pub bit_high : (n x k : ℕ) → x < 2 ^ n → n ≤ k → bit x k ≡ false
bit_high zero x k l h = let e : x ≡ 0 = omega arith in rw e (bit-none k)
bit_high (suc n) x zero l h = absurd (not-suc-le-zero h)
bit_high (suc n) x (suc k) l h = bit-suc x k ∙ bit_high n (x / 2) k (omega arith) (omega arith)

-- a word shifted to the right
pub bit-shift : (x j k : ℕ) → bit (x / 2 ^ j) k ≡ bit x (j + k)
unfolding bit
bit-shift x j k =
    ap (λ (m : ℕ). eqb (m % 2) 1) (div-div-eq-div-mul x (2 ^ j) (2 ^ k) ∙ ap (λ (m : ℕ). x / m) (sym (pow-add 2 j k)))

-- ---- and, or, not

low_or : (x y : ℕ) → eqb (bit_or x y % 2) 1 ≡ (eqb (x % 2) 1 || eqb (y % 2) 1)
low_or x y =
    let e : bit_or x y % 2 ≡ max (x % 2) (y % 2) = omega (arith, or_step x y) in
    rw e (go (digit x) (digit y))
  where
    go : (x % 2 ≡ 0) ⊎ (x % 2 ≡ 1) → (y % 2 ≡ 0) ⊎ (y % 2 ≡ 1) → eqb (max (x % 2) (y % 2)) 1 ≡ (eqb (x % 2) 1 || eqb (y % 2) 1)
    go (inl a) (inl b) = rw (a, b)
    go (inl a) (inr b) = rw (a, b)
    go (inr a) (inl b) = rw (a, b)
    go (inr a) (inr b) = rw (a, b)

low_and : (x y : ℕ) → eqb (bit_and x y % 2) 1 ≡ (eqb (x % 2) 1 && eqb (y % 2) 1)
low_and x y =
    let e : bit_and x y % 2 ≡ min (x % 2) (y % 2) = omega (arith, and_step x y) in
    rw e (go (digit x) (digit y))
  where
    go : (x % 2 ≡ 0) ⊎ (x % 2 ≡ 1) → (y % 2 ≡ 0) ⊎ (y % 2 ≡ 1) → eqb (min (x % 2) (y % 2)) 1 ≡ (eqb (x % 2) 1 && eqb (y % 2) 1)
    go (inl a) (inl b) = rw (a, b)
    go (inl a) (inr b) = rw (a, b)
    go (inr a) (inl b) = rw (a, b)
    go (inr a) (inr b) = rw (a, b)

pub bit-or : (x y k : ℕ) → bit (bit_or x y) k ≡ (bit x k || bit y k)
unfolding bit
bit-or x y k = rw (or_shr x y k) (low_or (x / 2 ^ k) (y / 2 ^ k))

pub bit-and : (x y k : ℕ) → bit (bit_and x y) k ≡ (bit x k && bit y k)
unfolding bit
bit-and x y k = rw (and_shr x y k) (low_and (x / 2 ^ k) (y / 2 ^ k))

pub bit_not : (n x k : ℕ) → x < 2 ^ n → k < n → bit ((2 ^ n - 1) - x) k ≡ not (bit x k)
bit_not zero x k l h = absurd (not-suc-le-zero h)
bit_not (suc n) x zero l h =
    bit-zero ((2 ^ suc n - 1) - x) ∙ elim (digit x) [
      | inl e ↦ let f : ((2 ^ suc n - 1) - x) % 2 ≡ 1 = omega arith in rw (f, bit-zero x, e)
      | inr e ↦ let f : ((2 ^ suc n - 1) - x) % 2 ≡ 0 = omega arith in rw (f, bit-zero x, e)
    ]
bit_not (suc n) x (suc k) l h =
    let f : ((2 ^ suc n - 1) - x) / 2 ≡ (2 ^ n - 1) - x / 2 = omega arith in
    bit-suc ((2 ^ suc n - 1) - x) k ∙ rw (f, bit-suc x k) (bit_not n (x / 2) k (omega arith) (omega arith))

-- an or is 0 only if both are
pub or-none : (x y : ℕ) → bit_or x y ≡ 0 → (x ≡ 0) × (y ≡ 0)
or-none x y e =
    (omega (arith, e, or_add_and x y, and_le_l x y, and_le_r x y), omega (arith, e, or_add_and x y, and_le_l x y, and_le_r x y))

-- ---- one bit, and the bits below one

bit-pow-same : (r : ℕ) → bit (2 ^ r) r ≡ true
bit-pow-same zero = bit-zero 1
bit-pow-same (suc r) = let f : 2 ^ suc r / 2 ≡ 2 ^ r = omega arith in bit-suc (2 ^ suc r) r ∙ rw f (bit-pow-same r)

bit-pow-other : (r k : ℕ) → (k ≡ r → ⊥) → bit (2 ^ r) k ≡ false
bit-pow-other zero zero h = absurd (h refl)
bit-pow-other zero (suc k) h = bit-suc 1 k ∙ bit-none k
bit-pow-other (suc r) zero h = let f : 2 ^ suc r % 2 ≡ 0 = omega arith in bit-zero (2 ^ suc r) ∙ rw f
bit-pow-other (suc r) (suc k) h =
    let f : 2 ^ suc r / 2 ≡ 2 ^ r = omega arith in
    bit-suc (2 ^ suc r) k ∙ rw f (bit-pow-other r k (λ e. h (ap suc e)))

pub bit-pow : (r k : ℕ) → bit (2 ^ r) k ≡ eqb k r
bit-pow r k = elim (ℕ_discrete k r) [
  | yes e ↦ rw e (bit-pow-same r) ∙ sym (eq-eqb k r e)
  | no ne ↦ bit-pow-other r k ne ∙ sym (ne_eqb k r ne)
]

-- two comparisons that come out alike
same-order : (a b c d : ℕ) → (a < b → c < d) → (c < d → a < b) → ltb a b ≡ ltb c d
same-order a b c d f g = same (ltb a b) (ltb c d) (λ t. lt-ltb c d (f (ltb-true a b t))) (λ t. lt-ltb a b (g (ltb-true c d t)))

pub bit-ones : (n k : ℕ) → bit (2 ^ n - 1) k ≡ ltb k n
bit-ones zero zero = bit-zero 0
bit-ones zero (suc k) = bit-none (suc k) ∙ sym (le-ltb (suc k) 0 (omega arith))
bit-ones (suc n) zero = let f : (2 ^ suc n - 1) % 2 ≡ 1 = omega (arith, pow_pos n) in
    bit-zero (2 ^ suc n - 1) ∙ ap (λ (m : ℕ). eqb m 1) f ∙ sym (lt-ltb 0 (suc n) (omega arith))
bit-ones (suc n) (suc k) =
    let f : (2 ^ suc n - 1) / 2 ≡ 2 ^ n - 1 = omega (arith, pow_pos n) in
    bit-suc (2 ^ suc n - 1) k ∙ rw f (bit-ones n k ∙ same-order k n (suc k) (suc n) (λ l. omega arith) (λ l. omega arith))

-- the shift that makes the mask
pub shl_one : (k : ℕ) → k < 64 → (1 * 2 ^ k) % 2 ^ 64 ≡ 2 ^ k
shl_one k l = ap (λ (n : ℕ). n % 2 ^ 64) (one-mul (2 ^ k)) ∙ mod-eq_of_lt (pow-lt l)

-- ---- trailing zeros: the bits below are clear, and the bit there is set

pub tz-below : (n x : ℕ) → 0 < x → x < 2 ^ n → count_trailing_zeros n x < n
unfolding count_trailing_zeros
tz-below zero x p l = absurd (omega arith)
tz-below (suc n) x p l = elim (digit x) [
  | inl e ↦ rw e (let m = tz-below n (x / 2) (omega arith) (omega arith) in omega arith)
  | inr e ↦ rw e (omega arith)
]

pub tz-clear : (n x k : ℕ) → k < count_trailing_zeros n x → bit x k ≡ false
unfolding count_trailing_zeros
tz-clear zero x k l = absurd (not-suc-le-zero l)
tz-clear (suc n) x zero l = elim (digit x) [ inl e ↦ bit-zero x ∙ rw e | inr e ↦ absurd (not-suc-le-zero (rw e at l)) ]
tz-clear (suc n) x (suc k) l = elim (digit x) [
  | inl e ↦ let m = rw e at l in bit-suc x k ∙ tz-clear n (x / 2) k (omega arith)
  | inr e ↦ absurd (not-suc-le-zero (rw e at l))
]

pub tz-set : (n x : ℕ) → count_trailing_zeros n x < n → bit x (count_trailing_zeros n x) ≡ true
unfolding count_trailing_zeros
tz-set zero x l = absurd (not-suc-le-zero l)
tz-set (suc n) x l = elim (digit x) [
  | inl e ↦ let m = rw e at l in rw e (bit-suc x (count_trailing_zeros n (x / 2)) ∙ tz-set n (x / 2) (omega arith))
  | inr e ↦ rw e (bit-zero x ∙ rw e)
]

pub tz-lowers : (x : ℕ) → 0 < x → x < 2 ^ 64 → (count_trailing_zeros 64 x < 64) × Lowers (bit x) (count_trailing_zeros 64 x)
tz-lowers x p l =
    let m = tz-below 64 x p l in
    (m, record { within = tz-set 64 x m; least = tz-clear 64 x })

-- ---- the masks of `ones`

module _ (n from : ℕ) where
  pub ones_none : n ≤ from → OnesBelow n from 0
  ones_none h = record { each = λ k l. bit-none k ∙ sym (le-ltb (from + k) n (omega arith)) }

  pub ones-all : 64 ≤ n - from → OnesBelow n from (2 ^ 64 - 1)
  ones-all h = record { each = λ k l. bit-ones 64 k ∙ lt-ltb k 64 l ∙ sym (lt-ltb (from + k) n (omega arith)) }

  pub ones-some : (k : ℕ) → k < 64 → k ≡ n - from → 0 < k → OnesBelow n from ((1 * 2 ^ k) % 2 ^ 64 - 1)
  ones-some k g e p =
      record { each = λ j l. ap (λ (m : ℕ). bit (m - 1) j) (shl_one k g) ∙ bit-ones k j ∙ same-order j k (from + j) n (λ m. omega arith) (λ m. omega arith) }
