-- A number that digits say is at most the bound.
use mathlib.Core.Path.{◌≡◌}
use mathlib.Core.List.{List, [], ◌∷◌}
use Prim.Native.Nat.{ℕ, ◌+◌, ◌*◌, ◌-◌, ◌≤◌}
use native.Mathlib.Omega.{arith}
use lib.ListN.{length}
use Rattle.meaning.proofs.Choice.{lt-either, eq-either}
use Rattle.std.specs.Prelude.{Option, Some, None}
use Rattle.decimal.specs.Digits.{value_from, plain_of}

-- nothing, or a number of at most `most`
pub data UpTo (most : ℕ) : Option ℕ → Type 0 where
  value : {v : ℕ} → v ≤ most → UpTo most (Some v)
  nothing : UpTo most None

pub value-one : (u v : ℕ) → Some u ≡ Some v → u ≡ v
value-one u v e = cc

pub value-bound : (most v : ℕ) (l : List ℕ) → v ≤ most → UpTo most (value_from most v l)
unfolding value_from
value-bound most v [] h = value h
value-bound most v (x ∷ l) h =
    lt-either (UpTo most) x 48 _ _ (λ _. nothing) (λ _.
    lt-either (UpTo most) 57 x _ _ (λ _. nothing) (λ _.
    lt-either (UpTo most) most _ _ _ (λ _. nothing) (λ g. value-bound most (10 * v + (x - 48)) l g)))

pub plain-bound : (most : ℕ) (l : List ℕ) → UpTo most (plain_of most l)
unfolding plain_of
plain-bound most l =
    eq-either (UpTo most) (length l) 0 _ _ (λ _. nothing) (λ _.
    eq-either (UpTo most) (length l) 1 _ _ (λ _. value-bound most 0 l (omega arith)) (λ _.
    eq-either (UpTo most) _ 48 _ _ (λ _. nothing) (λ _. value-bound most 0 l (omega arith))))

pub up_to : {most v : ℕ} {d : Option ℕ} → UpTo most d → d ≡ Some v → v ≤ most
up_to {v} (value {v = u} h) e = rw (← value-one u v e) h
up_to {v} nothing e = let z : ◌≡◌ {A = ℕ} 0 1 = cc in omega arith
