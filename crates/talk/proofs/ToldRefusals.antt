-- The numbers and places that people and software are told are those that the answers of checking and of a call for a paper tell.
use mathlib.Core.Path.{◌≡◌, refl}
use Rattle.meaning.specs.Told.{Told, success, refused_with, refused_at, refused}
use Rattle.std.specs.Prelude.{ℕ, Result, Ok, Err}
use Rattle.meaning.specs.declared.kind.Claim.{Claim}
use Rattle.checker.specs.declared.answer.Rejected.{Rejected}
use Rattle.checker.specs.declared.answer.Rejected.TheVariants.{Book, Length, Mark, Trailer, Atom, Form, Fails, Gap, Witness}
use Rattle.writer.specs.declared.answer.Unwritten.{Unwritten}
use Rattle.writer.specs.declared.answer.Unwritten.TheVariants.{Fewer, Stopped, NotCertain, NotClear, HasReading, NoAtom, TooLong}
use Rattle.writer.specs.declared.answer.Unwritten.TheVariants.{Book as BadBook}
use Rattle.checker.specs.Numbers as Checking
use Rattle.writer.specs.Write as Naming
use Rattle.talk.specs.declared.refusals.Refused.{Refused}
use Rattle.talk.specs.Refusals.{at, plain, of_paper, of_name}

-- what is told, without the values of a success and of a refusal
abbrev tells : {S : Type 0} → Told S → Refused
tells (success values) = plain 0
tells (refused_with n values) = plain n
tells (refused_at n place) = at n place
tells (refused n) = plain n

pub paper-refusal-told : (c : Result Claim Rejected) → of_paper c ≡ tells (Checking.told c)
paper-refusal-told (Ok k) = refl
paper-refusal-told (Err (Book f)) = refl
paper-refusal-told (Err Length) = refl
paper-refusal-told (Err (Mark place)) = refl
paper-refusal-told (Err (Trailer place)) = refl
paper-refusal-told (Err (Atom place)) = refl
paper-refusal-told (Err (Form place)) = refl
paper-refusal-told (Err (Fails place)) = refl
paper-refusal-told (Err (Gap place)) = refl
paper-refusal-told (Err (Witness place)) = refl

pub name-refusal-told : (n : Result (ℕ × ℕ) Unwritten) → of_name n ≡ tells (Naming.told n)
name-refusal-told (Ok paper) = refl
name-refusal-told (Err (Fewer tries rule)) = refl
name-refusal-told (Err (Stopped limit)) = refl
name-refusal-told (Err (BadBook f)) = refl
name-refusal-told (Err NotCertain) = refl
name-refusal-told (Err NotClear) = refl
name-refusal-told (Err HasReading) = refl
name-refusal-told (Err NoAtom) = refl
name-refusal-told (Err TooLong) = refl
