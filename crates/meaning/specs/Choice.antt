-- A choice by a test, and two tests compared, for definitions that mirror code; no sentence of document 01. Most proofs go by the laws in
-- proofs/Choice.antt, and those that compute unfold them.
use Rattle.std.specs.Prelude.{ℕ, Bool, true, false, not, ltb, eqb}

-- a where the test holds, else b
unfoldable pub ifb : {A : Type 0} → Bool → A → A → A
ifb true a b = a
ifb false a b = b

-- a where m is below n, else b
unfoldable pub if_lt : {A : Type 0} → ℕ → ℕ → A → A → A
if_lt m n a b = ifb (ltb m n) a b

-- a where m is n, else b
unfoldable pub if_eq : {A : Type 0} → ℕ → ℕ → A → A → A
if_eq m n a b = ifb (eqb m n) a b

-- both tests hold, or both fail
unfoldable pub agree : Bool → Bool → Bool
agree true c = c
agree false c = not c
