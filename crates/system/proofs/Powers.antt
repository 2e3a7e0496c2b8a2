-- How many digits a number takes, by its logarithm.
use Rattle.std.proofs.Common.{◌≡◌, ap, ◌∙◌, ℕ, ◌+◌, ◌-◌, ◌*◌, ◌^◌, ◌<◌, ◌≤◌, max, arith, add-one}
use native.Mathlib.Nat.{pow-suc, pow-le-pow_right}
use Rattle.system.specs.Digits.{IsDigitCount}

-- 0 takes one digit, as 1 does
pub digits-by-log : (n m r : ℕ) → m ≡ max n 1 → 10 ^ r ≤ m → m < 10 * 10 ^ r → IsDigitCount 10 1 n (r + 1)
digits-by-log n m r e low high =
    let next : 10 ^ (r + 1) ≡ 10 ^ r * 10 = ap (λ (j : ℕ). 10 ^ j) (add-one r) ∙ pow-suc 10 r in
    let same : r + 1 - 1 ≡ r = omega arith in (
      omega arith,
      omega arith,
      λ more.
          let some : 0 < 10 = omega arith in
          let least : 1 ≤ r = omega arith in
          let tens : 10 ^ 1 ≤ 10 ^ r = pow-le-pow_right some least in
          rw same (omega arith),
    )
