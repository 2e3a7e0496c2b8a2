-- Laws of the next member of a set (specs/Bits, NextIn): it is determined; how four words are searched for it; and that the first one is
-- the lowest rule of a kind.
use mathlib.Core.Path.{◌≡◌, sym, ◌∙◌, ap, ap₂}
use Prim.Native.Nat.{ℕ, ◌<◌, ◌≤◌, ◌+◌, ◌-◌, ◌*◌, ◌/◌, ◌%◌, ◌^◌}
use native.Mathlib.Decide.{dec_lt}
use native.Mathlib.Omega.{arith}
use lib.ListN.{get_or}
use mathlib.Core.List.{List}
use Rattle.meaning.specs.Sets.{Set, ◌∉◌}
use Rattle.meaning.specs.Books.{Rules, rule_no}
use Rattle.meaning.specs.Lowest.{none, one, lowest_from}
use Rattle.meaning.specs.Bits.{bit, members, Lowers, NextIn}
use Rattle.meaning.proofs.Tests.{true-and-false}
use Rattle.meaning.proofs.Lowest.{none_from, one_from}
use Rattle.meaning.proofs.Words.{bit-none, bit_high, bit-shift}
use Rattle.meaning.proofs.Four.{Words, members-bit}

pub next_one : (s : Set ℕ) (from m n : ℕ) → NextIn s from m → NextIn s from n → m ≡ n
next_one s from m n p q = elim (dec_lt m n) [
  | yes l ↦ let (g, h) = p.within (omega (arith, q.bound)) in true-and-false h (q.passed m g l)
  | no l ↦ elim (dec_lt n m) [
    | yes k ↦ let (g, h) = q.within (omega (arith, p.bound)) in true-and-false h (p.passed n g k)
    | no k ↦ omega arith
  ]
]

-- the search goes on
pub next-further : (s : Set ℕ) (r m : ℕ) → NextIn s (r + 1) m → r < 256 → r < m
next-further s r m p h = elim (dec_lt r m) [ yes l ↦ l | no l ↦ let (g, k) = p.within (omega arith) in absurd (omega arith) ]

-- ---- the search through the words

-- no number from `from` on and below n is in the set
pub record Passed (s : Set ℕ) (from n : ℕ) : Type 0 where
  pub each : (i : ℕ) → from ≤ i → i < n → i ∉ s

module _ (s : Set ℕ) (from : ℕ) where
  pub passed_none : (n : ℕ) → n ≤ from → Passed s from n
  passed_none n h = record { each = λ i g l. absurd (omega arith) }

  pub passed-next : (m n : ℕ) → Passed s from m → from ≤ m → NextIn s m n → NextIn s from n
  passed-next m n p h q = record {
    passed = λ i g l. elim (dec_lt i m) [ yes k ↦ p.each i g k | no k ↦ q.passed i (omega arith) l ];
    within = λ l. let (g, k) = q.within l in (omega arith, k);
    bound = q.bound;
  }

  -- all 256 numbers are passed
  pub next-none : (n : ℕ) → 256 ≤ n → Passed s from n → NextIn s from 256
  next-none n h p = record { passed = λ i g l. p.each i g (omega arith); within = λ l. absurd (omega arith); bound = omega arith }

module _ (w : List ℕ) where
  module _ (from n : ℕ) (few : n < 4) (p : Passed (members w) from (n * 64)) where
    -- word n is 0
    pub passed-word : get_or w n 0 ≡ 0 → Passed (members w) from ((n + 1) * 64)
    passed-word z = record {
      each = λ i g l. elim (dec_lt i (n * 64)) [
        | yes k ↦ p.each i g k
        | no k ↦
            let e : i / 64 ≡ n = omega arith in
            members-bit w i (omega arith) ∙ ap (λ (m : ℕ). bit (get_or w m 0) (i % 64)) e ∙ ap (λ (x : ℕ). bit x (i % 64)) z ∙ bit-none (i % 64)
      ];
    }

    -- word n has a lowest bit
    pub next_word : from ≤ n * 64 → (k : ℕ) → (k < 64) × Lowers (bit (get_or w n 0)) k → NextIn (members w) from (n * 64 + k)
    next_word h k (g, low) = record {
      passed = λ i f l. elim (dec_lt i (n * 64)) [
        | yes m ↦ p.each i f m
        | no m ↦
            let e : i / 64 ≡ n = omega arith in
            members-bit w i (omega arith) ∙ ap (λ (j : ℕ). bit (get_or w j 0) (i % 64)) e ∙ low.least (i % 64) (omega arith)
      ];
      within = λ l.
          let e : (n * 64 + k) / 64 ≡ n = omega arith in
          let f : (n * 64 + k) % 64 ≡ k = omega arith in
          (omega arith, members-bit w (n * 64 + k) (omega arith) ∙ ap₂ (λ (m j : ℕ). bit (get_or w m 0) j) e f ∙ low.within);
      bound = omega arith;
    }

  -- the word of `from`, shifted so that its bit of `from` is bit 0
  module _ (from : ℕ) (few : from < 256) where
    -- a number of the same word, not below from
    shifted : (i : ℕ) → from ≤ i → i / 64 ≡ from / 64 → members w i ≡ bit (get_or w (from / 64) 0 / 2 ^ (from % 64)) (i - from)
    shifted i h e =
        let f : i % 64 ≡ from % 64 + (i - from) = omega arith in
        members-bit w i (omega arith) ∙ ap₂ (λ (m j : ℕ). bit (get_or w m 0) j) e f ∙ sym (bit-shift (get_or w (from / 64) 0) (from % 64) (i - from))

    pub passed-rest : get_or w (from / 64) 0 / 2 ^ (from % 64) ≡ 0 → Passed (members w) from ((from / 64 + 1) * 64)
    passed-rest z = record {
      each = λ i g l.
          shifted i g (omega arith) ∙ ap (λ (x : ℕ). bit x (i - from)) z ∙ bit-none (i - from);
    }

    pub next_here : Words w → (k : ℕ) → (k < 64) × Lowers (bit (get_or w (from / 64) 0 / 2 ^ (from % 64))) k → NextIn (members w) from (from + k)
    next_here u k (g, low) = record {
      passed = λ i f l. shifted i f (omega (arith, inside)) ∙ low.least (i - from) (omega arith);
      within = λ l.
          let e : (from + k) - from ≡ k = omega arith in
          (omega arith, shifted (from + k) (omega arith) (omega (arith, inside)) ∙ ap (bit (get_or w (from / 64) 0 / 2 ^ (from % 64))) e ∙ low.within);
      bound = omega (arith, inside);
    }
      where
        -- the bit is one of the word's 64
        inside : from % 64 + k < 64
        inside = elim (dec_lt (from % 64 + k) 64) [
          | yes l ↦ l
          | no l ↦
              true-and-false (sym (bit-shift (get_or w (from / 64) 0) (from % 64) k) ∙ low.within)
              (bit_high 64 (get_or w (from / 64) 0) (from % 64 + k) (u.small (from / 64)) (omega arith))
        ]

-- ---- the lowest rule of a kind

module _ (s : Rules) (r n : ℕ) (p : NextIn (λ i. s (rule_no i)) 0 r) (few : n ≤ 256) where
  pub next-lowest : r < n → lowest_from 0 n s ≡ one (rule_no r)
  next-lowest l = one_from n s (rule_no r) l (p.within (omega arith)).1 (λ q g. p.passed q.0 (omega arith) g)

  pub next-lowest-none : n ≤ r → lowest_from 0 n s ≡ none
  next-lowest-none l = none_from n s (λ q g. p.passed q.0 (omega arith) (omega arith))
