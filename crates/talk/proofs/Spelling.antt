-- What is written in hexadecimal is read back: the two digits of a byte say that byte.
use mathlib.Core.Path.{◌≡◌, refl, ◌∙◌, ap}
use mathlib.Core.List.{List}
use mathlib.Core.Logic.{⊎_elim}
use Prim.Native.Nat.{ℕ, zero, suc, ◌+◌, ◌*◌, ◌/◌, ◌%◌, ◌<◌, ◌≤◌}
use native.Mathlib.Omega.{arith}
use lib.ListN.{length, length-set, get_or, set}
use lib.Seq.{get_or-set_same, get_or-set_other}
use Rattle.meaning.proofs.Tests.{lt-or-le}
use Rattle.meaning.proofs.Choice.{lt_yes, lt_no}
use Rattle.talk.specs.Hexadecimal.{digit_of, byte_at, digit_for, spelled}

digit-back : (v : ℕ) → v < 16 → digit_of (digit_for v) ≡ v
unfolding digit_of digit_for
digit-back v h = ⊎_elim
    (λ l. ap digit_of (lt_yes _ _ _ _ l) ∙ lt_no _ _ _ _ (omega arith) ∙ lt_yes _ _ _ _ (omega arith) ∙ omega arith)
    (λ l. ap digit_of (lt_no _ _ _ _ l) ∙ lt_no _ _ _ _ (omega arith) ∙ lt_no _ _ _ _ (omega arith) ∙ lt_no _ _ _ _ (omega arith)
    ∙ lt_no _ _ _ _ (omega arith) ∙ lt_no _ _ _ _ (omega arith) ∙ lt_yes _ _ _ _ (omega arith) ∙ omega arith) (lt-or-le v 10)

spelled-length : (n : ℕ) (l out : List ℕ) → length (spelled n l out) ≡ length out
unfolding spelled
spelled-length zero l out = refl
spelled-length (suc n) l out = simp length-set (spelled-length n l out)

-- two places next to each other, stored
stored : (s : List ℕ) (n x y : ℕ) → 2 * n + 1 < length s
    → (get_or (set (set s (2 * n) x) (2 * n + 1) y) (2 * n) 0 ≡ x) × (get_or (set (set s (2 * n) x) (2 * n + 1) y) (2 * n + 1) 0 ≡ y)
stored s n x y h = (
  get_or-set_other (set s (2 * n) x) (2 * n + 1) (2 * n) y 0 (λ e. omega arith) ∙ get_or-set_same s (2 * n) x 0 (omega arith),
  get_or-set_same (set s (2 * n) x) (2 * n + 1) y 0 (simp length-set h),
)

module _ (l out : List ℕ) where
  -- a turn leaves the places before its two as they were
  kept : (n j : ℕ) → j < 2 * n → get_or (spelled (suc n) l out) j 0 ≡ get_or (spelled n l out) j 0
  unfolding spelled
  kept n j h = let s = set (spelled n l out) (2 * n) (digit_for (get_or l n 0 / 16)) in
      get_or-set_other s (2 * n + 1) j (digit_for (get_or l n 0 % 16)) 0 (λ e. omega arith)
      ∙ get_or-set_other (spelled n l out) (2 * n) j (digit_for (get_or l n 0 / 16)) 0 (λ e. omega arith)

  -- the two digits of byte i: the last turn wrote them, or left them as they were
  spelled-digits : (n i : ℕ) → i < n → 2 * n ≤ length out
      → (get_or (spelled n l out) (2 * i) 0 ≡ digit_for (get_or l i 0 / 16))
      × (get_or (spelled n l out) (2 * i + 1) 0 ≡ digit_for (get_or l i 0 % 16))
  unfolding spelled
  spelled-digits zero i h room = absurd (omega arith)
  spelled-digits (suc n) i h room =
      let size = spelled-length n l out in
      ⊎_elim
      (λ k. let (high, low) = spelled-digits n i k (omega arith) in
      (kept n (2 * i) (omega arith) ∙ high, kept n (2 * i + 1) (omega arith) ∙ low))
      (λ k. let e : i ≡ n = omega arith in rw e (stored (spelled n l out) n _ _ (omega arith)))
      (lt-or-le i n)

  -- as `read_bytes` reads them
  pub spelled-says : (n i : ℕ) → i < n → 2 * n ≤ length out → get_or l i 0 < 256 → byte_at (spelled n l out) i ≡ get_or l i 0
  unfolding byte_at
  spelled-says n i h room small =
      let (high, low) = spelled-digits n i h room in
      rw (high, low, digit-back (get_or l i 0 / 16) (omega arith), digit-back (get_or l i 0 % 16) (omega arith)) (omega arith)
