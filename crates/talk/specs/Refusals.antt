-- The number and the place of what checking and a call for a paper refuse, case by case; what refuses nothing has number 0. That they are those which
-- the answers tell is a law (proofs/ToldRefusals.antt).
use Rattle.std.specs.Prelude.{ℕ, Result, Ok, Err, Some, None}
use Rattle.meaning.specs.declared.kind.Claim.{Claim}
use Rattle.book.specs.Numbers.{number_of, place_of}
use Rattle.book.specs.declared.refusal.Refusal.{Refusal}
use Rattle.checker.specs.declared.answer.Rejected.{Rejected}
use Rattle.checker.specs.declared.answer.Rejected.TheVariants.{Book, Length, Mark, Trailer, Atom, Form, Fails, Gap, Witness}
use Rattle.writer.specs.declared.answer.Unwritten.{Unwritten}
use Rattle.writer.specs.declared.answer.Unwritten.TheVariants.{Fewer, Stopped, NotCertain, NotClear, HasReading, NoAtom, TooLong}
use Rattle.writer.specs.declared.answer.Unwritten.TheVariants.{Book as BadBook}
use Rattle.talk.specs.declared.refusals.Refused.{Refused}

abbrev pub at : ℕ → ℕ → Refused
at n place = record { number = n; place = Some place }

abbrev pub plain : ℕ → Refused
plain n = record { number = n; place = None }

abbrev pub of_book : Refusal → Refused
of_book f = at (number_of f) (place_of f)

abbrev pub of_paper : Result Claim Rejected → Refused
of_paper (Ok k) = plain 0
of_paper (Err (Book f)) = of_book f
of_paper (Err Length) = at 20 0
of_paper (Err (Mark place)) = at 21 place
of_paper (Err (Trailer place)) = at 22 place
of_paper (Err (Atom place)) = at 23 place
of_paper (Err (Form place)) = at 24 place
of_paper (Err (Fails place)) = at 25 place
of_paper (Err (Gap place)) = at 26 place
of_paper (Err (Witness place)) = at 27 place

abbrev pub of_name : Result (ℕ × ℕ) Unwritten → Refused
of_name (Ok paper) = plain 0
of_name (Err (Fewer tries rule)) = plain 11
of_name (Err (Stopped limit)) = plain 9
of_name (Err (BadBook f)) = of_book f
of_name (Err NotCertain) = plain 12
of_name (Err NotClear) = plain 18
of_name (Err HasReading) = plain 38
of_name (Err NoAtom) = plain 13
of_name (Err TooLong) = plain 14
