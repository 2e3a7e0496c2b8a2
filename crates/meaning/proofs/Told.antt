-- What is told of a call tells all of it: answers told alike are equal where each can be found again from what is told, so that a promise in
-- these terms determines the answer. Document 01, "What the promises say".
--
--   again            an answer found again: by a success's values, a refusal's values, its number and place, or its number
--   values_again      by the values of a refusal: 9 has one, 11 has three, no other number has any
use mathlib.Core.Path.{◌≡◌, sym, ◌∙◌, ap}
use mathlib.Core.List.{List, [], ◌∷◌}
use Prim.Native.Nat.{ℕ}
use Rattle.meaning.specs.Told.{Told, success, refused_with, refused_at, refused, Answered}

abbrev pub values_again : {A : Type 0} → A → (ℕ → A) → (ℕ → ℕ → ℕ → A) → List ℕ → A
values_again other stopped fewer [] = other
values_again other stopped fewer (limit ∷ []) = stopped limit
values_again other stopped fewer (tries ∷ (sets ∷ [])) = other
values_again other stopped fewer (tries ∷ (sets ∷ (rule ∷ l))) = fewer tries sets rule

abbrev pub again : {S A : Type 0} → (S → A) → (List ℕ → A) → (ℕ → ℕ → A) → (ℕ → A) → Told S → A
again by-success by_values by_place by_number (success s) = by-success s
again by-success by_values by_place by_number (refused_with number values) = by_values values
again by-success by_values by_place by_number (refused_at number place) = by_place number place
again by-success by_values by_place by_number (refused number) = by_number number

pub one_again : {A B : Type 0} (tell : A → B) (find : B → A) → ((a : A) → find (tell a) ≡ a) → (x y : A) → tell x ≡ tell y → x ≡ y
one_again tell find found x y e = sym (found x) ∙ ap find e ∙ found y

-- a success tells its values
pub success-one : {S : Type 0} {s t : S} → success s ≡ success t → s ≡ t
success-one e = cc

-- and with what is told, the buffer afterwards
pub answered-one : {S A : Type 0} (tell : A → Told S) → ((x y : A) → tell x ≡ tell y → x ≡ y) → (x y : A) (after other : List ℕ)
    → ◌≡◌ {A = Answered S} (record { told = tell x; buffer = after }) (record { told = tell y; buffer = other }) → (x ≡ y) × (after ≡ other)
answered-one {S} tell one x y after other e = (one x y (ap (λ (a : Answered S). a.told) e), ap (λ (a : Answered S). a.buffer) e)
