-- Counts that are told up to 256 (specs/Opened): a sum of such counts tells the sum, and a count below 256 is the number itself.
use mathlib.Core.Path.{◌≡◌, refl, sym, ◌∙◌}
use Prim.Native.Nat.{ℕ, ◌+◌, ◌≤◌, ◌<◌}
use native.Mathlib.Omega.{arith}
use Rattle.meaning.proofs.Choice.{lt-either}
use Rattle.lparse.specs.Opened.{capped}

capped-either : (P : ℕ → Type 0) (n : ℕ) → (256 < n → P 256) → (n ≤ 256 → P n) → P (capped n)
unfolding capped
capped-either P n f g = lt-either P 256 n 256 n f g

module _ (n : ℕ) where
  pub capped-full : 256 ≤ n → capped n ≡ 256
  capped-full h = capped-either (λ x. x ≡ 256) n (λ k. refl) (λ k. omega arith)

  pub capped-of : n ≤ 256 → capped n ≡ n
  capped-of h = capped-either (λ x. x ≡ n) n (λ k. absurd (omega arith)) (λ k. refl)

  -- a count below 256 is the number itself, and no number is smaller than its count
  pub capped-real : {m : ℕ} → m ≡ capped n → m ≤ 255 → m ≡ n
  capped-real {m} e h = capped-either (λ x. m ≡ x → m ≡ n) n (λ k f. absurd (omega arith)) (λ k f. f) e

  pub capped-least : {m : ℕ} → m ≤ capped n → m ≤ n
  capped-least {m} h = capped-either (λ x. m ≤ x → m ≤ n) n (λ k f. omega arith) (λ k f. f) h

module _ (c n : ℕ) where
  pub capped-on : capped (capped c + n) ≡ capped (c + n)
  capped-on = capped-either (λ x. capped (x + n) ≡ capped (c + n)) c
      (λ h. capped-full (256 + n) (omega arith) ∙ sym (capped-full (c + n) (omega arith))) (λ h. refl)

  capped-by : capped (c + capped n) ≡ capped (c + n)
  capped-by = capped-either (λ x. capped (c + x) ≡ capped (c + n)) n
      (λ h. capped-full (c + 256) (omega arith) ∙ sym (capped-full (c + n) (omega arith))) (λ h. refl)

pub capped-sum : (c n : ℕ) → capped (capped c + capped n) ≡ capped (c + n)
capped-sum c n = capped-on c (capped n) ∙ capped-by c n
