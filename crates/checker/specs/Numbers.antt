-- What checking tells. Document 01, "Numbers given back": "Acceptance tells the claimed atom."; document 02, request 2: "the checker takes
-- both kinds and tells which it accepted"; of a paper that the book has no reading, that.
use Rattle.std.specs.Prelude.{ℕ, Result, Ok, Err}
use Rattle.meaning.specs.declared.AtomNo.{AtomNo}
use Rattle.meaning.specs.declared.kind.Kind.{Kind}
use Rattle.meaning.specs.declared.kind.Kind.TheVariants.{Naming, Clearing}
use Rattle.meaning.specs.declared.kind.Claim.{Claim}
use Rattle.meaning.specs.declared.kind.Claim.TheVariants.{NoReading}
use Rattle.meaning.specs.Claim.{claim}
use Rattle.meaning.specs.Told.{Told, success, refused_at}
use Rattle.book.specs.Numbers.{number_of as book_number, place_of as book_place}
use Rattle.checker.specs.declared.answer.Rejected.{Rejected}
use Rattle.checker.specs.declared.answer.Rejected.TheVariants.{Book, Length, Mark, Trailer, Atom, Form, Fails, Gap, Witness}

-- success tells the claim: its kind and its atom, or that there is no reading
abbrev pub accepted : Kind → AtomNo → Told Claim
accepted q a = success (claim q a)

abbrev pub certain : AtomNo → Told Claim
certain a = accepted Naming a

abbrev pub clear : AtomNo → Told Claim
clear a = accepted Clearing a

abbrev pub no_reading : Told Claim
no_reading = success NoReading

abbrev pub number_of : Rejected → ℕ
number_of (Book f) = book_number f
number_of Length = 20
number_of (Mark at) = 21
number_of (Trailer at) = 22
number_of (Atom at) = 23
number_of (Form at) = 24
number_of (Fails at) = 25
number_of (Gap at) = 26
number_of (Witness at) = 27

abbrev pub place_of : Rejected → ℕ
place_of (Book f) = book_place f
place_of Length = 0
place_of (Mark at) = at
place_of (Trailer at) = at
place_of (Atom at) = at
place_of (Form at) = at
place_of (Fails at) = at
place_of (Gap at) = at
place_of (Witness at) = at

abbrev pub told : Result Claim Rejected → Told Claim
told (Ok k) = success k
told (Err f) = refused_at (number_of f) (place_of f)
