-- What is told of a call for a paper tells all of it: two answers told alike are equal. Each answer is found again from what is told of it.
use mathlib.Core.Path.{◌≡◌, refl, ap}
use mathlib.Core.List.{List, [], ◌∷◌, ◌++◌}
use lib.ListN.{get_or, replicate}
use Prim.Native.Nat.{ℕ}
use Rattle.std.specs.Prelude.{Result, Ok, Err}
use Rattle.meaning.specs.Books.{rule_no}
use Rattle.meaning.specs.Told.{Told}
use Rattle.meaning.proofs.Told.{values_again, again, one_again}
use Rattle.book.proofs.Told.{refusal_at, refusal-again}
use Rattle.writer.specs.declared.answer.Unwritten.{Unwritten}
use Rattle.writer.specs.declared.answer.Unwritten.TheVariants.{Fewer, Stopped, Book, NotCertain, NotClear, HasReading, NoAtom, TooLong}
use Rattle.writer.specs.Write.{Handed, told}

-- 12 to 14, 18 and 38; no answer is told as another number
abbrev refusals : List Unwritten
refusals =
    replicate 12 NoAtom
    ++ (NotCertain ∷ NoAtom ∷ TooLong ∷ (replicate 3 NoAtom ++ (NotClear ∷ (replicate 19 NoAtom ++ (HasReading ∷ [])))))

abbrev named_at : Told Handed → Result (ℕ × ℕ) Unwritten
named_at = again (λ s. Ok (s.tries, s.size))
    (values_again (Err NoAtom) (λ limit. Err (Stopped limit)) (λ tries sets rule. Err (Fewer tries (rule_no rule))))
    (λ number at. Err (Book (refusal_at number at))) (λ number. Err (get_or refusals number NoAtom))

named_again : (x : Result (ℕ × ℕ) Unwritten) → named_at (told x) ≡ x
named_again (Ok (tries, length)) = refl
named_again (Err (Fewer tries rule)) = refl
named_again (Err (Stopped limit)) = refl
named_again (Err (Book f)) = ap (λ w. Err (Book w)) (refusal-again f)
named_again (Err NotCertain) = refl
named_again (Err NotClear) = refl
named_again (Err HasReading) = refl
named_again (Err NoAtom) = refl
named_again (Err TooLong) = refl

pub told-one : (x y : Result (ℕ × ℕ) Unwritten) → told x ≡ told y → x ≡ y
told-one = one_again told named_at named_again
