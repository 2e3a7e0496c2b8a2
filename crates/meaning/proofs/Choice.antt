-- Laws of the choices of specs/Choice: what is chosen where the test holds and where it fails. Most proofs go by these and not by the test.
-- And of tests that agree.
use Prim.Native.Nat.{ℕ, ◌<◌, ◌≤◌}
use mathlib.Core.Bool.{Bool, true, false}
use mathlib.Core.Path.{◌≡◌, refl, sym}
use lib.Dec.{ltb, eqb}
use borrow.Author.Tests.{not-true, lt-ltb, le-ltb, eq-eqb, ne_eqb, ltb-true, ltb-false, eqb-true, eqb-false}
use Rattle.meaning.specs.Choice.{ifb, if_lt, if_eq, agree}

module _ {A : Type 0} (t : Bool) (a b : A) where
  pub b-yes : t ≡ true → ifb t a b ≡ a
  unfolding ifb
  b-yes h = rw h

  pub b-no : t ≡ false → ifb t a b ≡ b
  unfolding ifb
  b-no h = rw h

module _ {A : Type 0} (m n : ℕ) (a b : A) where
  pub lt_yes : m < n → if_lt m n a b ≡ a
  unfolding if_lt
  lt_yes h = b-yes _ a b (lt-ltb _ _ h)

  pub lt_no : n ≤ m → if_lt m n a b ≡ b
  unfolding if_lt
  lt_no h = b-no _ a b (le-ltb _ _ h)

  pub eq_yes : m ≡ n → if_eq m n a b ≡ a
  unfolding if_eq
  eq_yes h = b-yes _ a b (eq-eqb _ _ h)

  pub eq_no : (m ≡ n → ⊥) → if_eq m n a b ≡ b
  unfolding if_eq
  eq_no h = b-no _ a b (ne_eqb _ _ h)

-- what holds of both sides, each under its test, holds of the choice
module _ {A : Type 0} (P : A → Type 0) where
  pub b-either : (t : Bool) (a b : A) → (t ≡ true → P a) → (t ≡ false → P b) → P (ifb t a b)
  unfolding ifb
  b-either true a b f g = f refl
  b-either false a b f g = g refl

  pub lt-either : (m n : ℕ) (a b : A) → (m < n → P a) → (n ≤ m → P b) → P (if_lt m n a b)
  unfolding if_lt
  lt-either m n a b f g = b-either (ltb m n) a b (λ e. f (ltb-true m n e)) (λ e. g (ltb-false m n e))

  pub eq-either : (m n : ℕ) (a b : A) → (m ≡ n → P a) → ((m ≡ n → ⊥) → P b) → P (if_eq m n a b)
  unfolding if_eq
  eq-either m n a b f g = b-either (eqb m n) a b (λ e. f (eqb-true m n e)) (λ e. g (eqb-false m n e))

pub agree-yes : {p q : Bool} → p ≡ q → agree p q ≡ true
unfolding agree
agree-yes {p = true} e = sym e
agree-yes {p = false} e = rw (← e)

pub agree_same : (p q : Bool) → agree p q ≡ true → p ≡ q
unfolding agree
agree_same true q e = sym e
agree_same false q e = sym (not-true q e)
