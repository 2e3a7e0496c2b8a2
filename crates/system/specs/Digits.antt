-- A number as text.
use Rattle.std.specs.Prelude.{ℕ, zero, suc, ◌+◌, ◌-◌, ◌/◌, ◌%◌, ◌^◌, ◌<◌, ◌≤◌, List, [], ◌∷◌, ◌++◌}

-- the ASCII code of a digit below 10
abbrev pub digit_ascii : ℕ → ℕ
digit_ascii d = 48 + d

-- the last k digits of n in base b, the most significant first
abbrev pub last_digits : ℕ → ℕ → ℕ → List ℕ
last_digits b zero n = []
last_digits b (suc k) n = last_digits b k (n / b) ++ (digit_ascii (n % b) ∷ [])

-- n takes k digits in base b, when padded to `width` digits
abbrev pub IsDigitCount : ℕ → ℕ → ℕ → ℕ → Type 0
IsDigitCount b width n k = (width ≤ k) × (n < b ^ k) × (width < k → b ^ (k - 1) ≤ n)
