-- What is told of a check tells all of it: two answers told alike are equal. Each answer is found again from what is told of it.
use mathlib.Core.Path.{◌≡◌, refl}
use mathlib.Core.List.{List, [], ◌∷◌, ◌++◌}
use Prim.Native.Nat.{ℕ}
use Rattle.std.specs.Prelude.{Result, Ok, Err}
use lib.ListN.{get_or, replicate}
use Rattle.meaning.specs.declared.kind.Claim.{Claim}
use Rattle.meaning.specs.Told.{Told}
use Rattle.meaning.proofs.Told.{again, one_again}
use Rattle.book.specs.declared.refusal.Refusal.TheVariants.{Length as BookLength, Mark as BookMark, Trailer as BookTrailer, Entry}
use Rattle.book.specs.declared.refusal.Refusal.TheVariants.{Record, Atom as BookAtom, Order}
use Rattle.checker.specs.declared.answer.Rejected.{Rejected}
use Rattle.checker.specs.declared.answer.Rejected.TheVariants.{Book, Length, Mark, Trailer, Atom, Form, Fails, Gap, Witness}
use Rattle.checker.specs.Numbers.{told}

-- 1 to 7, and 20 to 27; no answer is told as another number
abbrev refusals : ℕ → List Rejected
refusals at =
    (Length ∷ Book BookLength ∷ Book (BookMark at) ∷ Book (BookTrailer at) ∷ Book (Entry at) ∷ Book (Record at) ∷ Book (BookAtom at)
    ∷ Book (Order at) ∷ replicate 12 Length)
    ++ (Length ∷ Mark at ∷ Trailer at ∷ Atom at ∷ Form at ∷ Fails at ∷ Gap at ∷ Witness at ∷ [])

abbrev checked_at : Told Claim → Result Claim Rejected
checked_at = again Ok (λ values. Err Length) (λ number at. Err (get_or (refusals at) number Length)) (λ number. Err Length)

checked-again : (x : Result Claim Rejected) → checked_at (told x) ≡ x
checked-again (Ok k) = refl
checked-again (Err (Book BookLength)) = refl
checked-again (Err (Book (BookMark at))) = refl
checked-again (Err (Book (BookTrailer at))) = refl
checked-again (Err (Book (Entry at))) = refl
checked-again (Err (Book (Record at))) = refl
checked-again (Err (Book (BookAtom at))) = refl
checked-again (Err (Book (Order at))) = refl
checked-again (Err Length) = refl
checked-again (Err (Mark at)) = refl
checked-again (Err (Trailer at)) = refl
checked-again (Err (Atom at)) = refl
checked-again (Err (Form at)) = refl
checked-again (Err (Fails at)) = refl
checked-again (Err (Gap at)) = refl
checked-again (Err (Witness at)) = refl

pub told-one : (x y : Result Claim Rejected) → told x ≡ told y → x ≡ y
told-one = one_again told checked_at checked-again
