-- Numbers written in decimal digits, the fewest.
--
--   decimal n            the digits of n
--   Stored l at d n e    the bytes l were stored from place `at` on and nothing else was, and n is where they end
use Rattle.std.specs.Prelude.{◌≡◌, List, [], ◌∷◌, ◌++◌, ℕ, zero, suc, ◌+◌, ◌/◌, ◌%◌, length}
use Rattle.std.proofs.lemmas.List.Edits.{sets}
use Rattle.meaning.specs.Choice.{if_lt}

-- at most f digits stand in front of the last one
unfoldable pub decimal_for : ℕ → ℕ → List ℕ
decimal_for zero n = (48 + n) ∷ []
decimal_for (suc f) n = if_lt n 10 ((48 + n) ∷ []) (decimal_for f (n / 10) ++ ((48 + n % 10) ∷ []))

-- a number is never below the count of its digits in front of the last one
unfoldable pub decimal : ℕ → List ℕ
decimal n = decimal_for n n

pub record Stored (l : List ℕ) (at : ℕ) (before : List ℕ) (n : ℕ) (after : List ℕ) : Type 0 where
  pub ends : n ≡ at + length l
  pub long : length after ≡ length before
  pub bytes : after ≡ sets before at l
