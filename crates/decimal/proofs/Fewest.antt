-- A number's digits: how they grow at the end, how many they are, and that each is one.
use mathlib.Core.Path.{◌≡◌, refl, sym, ◌∙◌, ap}
use mathlib.Core.List.{List, [], ◌∷◌, ◌++◌}
use Prim.Native.Nat.{ℕ, zero, suc, ◌+◌, ◌*◌, ◌^◌, ◌/◌, ◌%◌, ◌<◌, ◌≤◌}
use native.Mathlib.Nat.{add-zero, add-suc, suc-add, pow-succ'}
use native.Mathlib.Omega.{arith}
use lib.ListN.{length, get_or, set, length-append, length-set, get_or-append}
use lib.Seq.{sets}
use Rattle.meaning.proofs.Choice.{lt_yes, lt_no, lt-either}
use Rattle.decimal.specs.Fewest.{decimal_for, decimal, Stored}

-- more room for digits changes nothing
enough : (f g n : ℕ) → n ≤ f → n ≤ g → decimal_for f n ≡ decimal_for g n
unfolding decimal_for
enough zero zero n h k = refl
enough zero (suc g) n h k = sym (lt_yes _ _ _ _ (omega arith))
enough (suc f) zero n h k = lt_yes _ _ _ _ (omega arith)
enough (suc f) (suc g) n h k = rw (enough f g (n / 10) (omega arith) (omega arith))

pub decimal-small : (n : ℕ) → n < 10 → decimal n ≡ (48 + n) ∷ []
unfolding decimal decimal_for
decimal-small zero h = refl
decimal-small (suc n) h = lt_yes _ _ _ _ h

pub decimal-large : (n : ℕ) → 10 ≤ n → decimal n ≡ decimal (n / 10) ++ ((48 + n % 10) ∷ [])
unfolding decimal decimal_for
decimal-large zero h = absurd (omega arith)
decimal-large (suc n) h = lt_no _ _ _ _ h ∙ ap (λ l. l ++ ((48 + suc n % 10) ∷ [])) (enough n (suc n / 10) (suc n / 10) (omega arith) (omega arith))

-- one digit more
pub decimal_step : (u d : ℕ) → 0 < u → d < 10 → decimal (10 * u + d) ≡ decimal u ++ ((48 + d) ∷ [])
decimal_step u d h k =
    let e : (10 * u + d) / 10 ≡ u = omega arith in
    let f : (10 * u + d) % 10 ≡ d = omega arith in
    rw (e, f) at (decimal-large (10 * u + d) (omega arith))

-- a statement of all numbers holds if it holds of one digit and goes on from n / 10 to n
pub by_digits : (P : ℕ → Type 0) → ((n : ℕ) → n < 10 → P n) → ((n : ℕ) → 10 ≤ n → P (n / 10) → P n) → (n : ℕ) → P n
by_digits P one more n = go n n (omega arith)
  where
    go : (f n : ℕ) → n ≤ f → P n
    go zero n h = one n (omega arith)
    go (suc f) n h =
        lt-either {A = ℕ} (λ _. P n) n 10 0 0 (λ k. one n k) (λ k. more n k (go f (n / 10) (omega arith)))

-- as many digits as the powers of ten say
pub decimal-short : (k n : ℕ) → n < 10 ^ suc k → length (decimal n) ≤ suc k
decimal-short zero n h = let g : n < 10 = h in rw (decimal-small n g) (omega arith)
decimal-short (suc k) n h =
    lt-either {A = ℕ} (λ _. length (decimal n) ≤ suc (suc k)) n 10 0 0 (λ g. rw (decimal-small n g) (omega arith)) (λ g.
    let e : n < 10 * 10 ^ suc k = rw (pow-succ' 10 (suc k)) at h in
    rw (decimal-large n g, length-append) (omega (arith, decimal-short k (n / 10) (omega arith))))

pub decimal-some : (n : ℕ) → 0 < length (decimal n)
decimal-some = by_digits (λ n. 0 < length (decimal n)) (λ n h. rw (decimal-small n h) (omega arith)) (λ n h g.
    rw (decimal-large n h, length-append) (omega arith))

pub decimal-longer : (n : ℕ) → 10 ≤ n → length (decimal n) ≡ length (decimal (n / 10)) + 1
decimal-longer n h = rw (decimal-large n h, length-append)

pub decimal-two : (n : ℕ) → 10 ≤ n → 1 < length (decimal n)
decimal-two n h = omega (arith, decimal-longer n h, decimal-some (n / 10))

-- no zero stands in front
pub decimal-starts : (n : ℕ) → 0 < n → get_or (decimal n) 0 0 ≡ 48 → ⊥
decimal-starts = by_digits (λ n. 0 < n → get_or (decimal n) 0 0 ≡ 48 → ⊥) one more
  where
    one : (n : ℕ) → n < 10 → 0 < n → get_or (decimal n) 0 0 ≡ 48 → ⊥
    one n h g e = let f : 48 + n ≡ 48 = rw (decimal-small n h) at e in omega arith

    more : (n : ℕ) → 10 ≤ n → (0 < n / 10 → get_or (decimal (n / 10)) 0 0 ≡ 48 → ⊥) → 0 < n → get_or (decimal n) 0 0 ≡ 48 → ⊥
    more n h f g e = f (omega arith)
        (sym (get_or-append (decimal (n / 10)) ((48 + n % 10) ∷ []) 0 0 (decimal-some (n / 10))) ∙ rw (decimal-large n h) at e)

-- ---- every byte of it is a digit

pub data AllDigits : List ℕ → Type 0 where
  none : AllDigits []
  more : {x : ℕ} {l : List ℕ} → 48 ≤ x → x ≤ 57 → AllDigits l → AllDigits (x ∷ l)

digits_append : {l m : List ℕ} → AllDigits l → AllDigits m → AllDigits (l ++ m)
digits_append none d = d
digits_append (more h g e) d = more h g (digits_append e d)

one-digit : (d : ℕ) → d < 10 → AllDigits ((48 + d) ∷ [])
one-digit d h = more {x = 48 + d} (omega arith) (omega arith) none

pub decimal-digits : (n : ℕ) → AllDigits (decimal n)
decimal-digits = by_digits (λ n. AllDigits (decimal n)) (λ n h. rw (decimal-small n h) (one-digit n h)) (λ n h g.
    rw (decimal-large n h) (digits_append g (one-digit (n % 10) (omega arith))))

-- ---- digits stored one behind another

pub sets-append : (l m d : List ℕ) (at : ℕ) → sets (sets d at l) (at + length l) m ≡ sets d at (l ++ m)
sets-append [] m d at = rw add-zero
sets-append (x ∷ l) m d at = rw (add-suc, ← suc-add) (sets-append l m (set d at x) (suc at))

pub stored-nil : (at : ℕ) (d : List ℕ) → Stored [] at d at d
stored-nil at d = record { ends = sym (add-zero at); long = refl; bytes = refl }

pub stored-then : {l m d e f : List ℕ} {at n k : ℕ} → Stored l at d n e → Stored m n e k f → Stored (l ++ m) at d k f
stored-then {l} {m} {d} {at = at} s t = record {
  ends = rw length-append (omega (arith, s.ends, t.ends));
  long = t.long ∙ s.long;
  bytes = t.bytes ∙ rw (s.bytes, s.ends) (sets-append l m d at);
}

pub stored_one : (d : List ℕ) (at x : ℕ) → Stored (x ∷ []) at d (at + 1) (set d at x)
stored_one d at x = record { ends = refl; long = length-set d at x; bytes = refl }
