-- What is told of a reading tells all of it: two readings told alike are equal. A refusal is found again from its number and place.
use mathlib.Core.Path.{◌≡◌, refl, ap}
use mathlib.Core.List.{[], ◌∷◌}
use Prim.Native.Nat.{ℕ}
use lib.ListN.{get_or}
use Rattle.meaning.specs.Told.{Told}
use Rattle.meaning.proofs.Told.{again, one_again}
use Rattle.book.specs.declared.refusal.Refusal.{Refusal}
use Rattle.book.specs.declared.refusal.Refusal.TheVariants.{Length, Mark, Trailer, Entry, Record, Atom, Order}
use Rattle.book.specs.declared.reader.Shape.{Shape}
use Rattle.std.specs.Prelude.{Result, Ok, Err}
use Rattle.book.specs.Numbers.{number_of, place_of, told}

abbrev pub refusal_at : ℕ → ℕ → Refusal
refusal_at number at = get_or (Length ∷ Length ∷ Mark at ∷ Trailer at ∷ Entry at ∷ Record at ∷ Atom at ∷ Order at ∷ []) number Length

pub refusal-again : (f : Refusal) → refusal_at (number_of f) (place_of f) ≡ f
refusal-again Length = refl
refusal-again (Mark at) = refl
refusal-again (Trailer at) = refl
refusal-again (Entry at) = refl
refusal-again (Record at) = refl
refusal-again (Atom at) = refl
refusal-again (Order at) = refl

abbrev read_at : Told Shape → Result Shape Refusal
read_at = again Ok (λ values. Err Length) (λ number at. Err (refusal_at number at)) (λ number. Err Length)

read_again : (r : Result Shape Refusal) → read_at (told r) ≡ r
read_again (Ok s) = refl
read_again (Err f) = ap Err (refusal-again f)

pub told-one : (r q : Result Shape Refusal) → told r ≡ told q → r ≡ q
told-one = one_again told read_at read_again
