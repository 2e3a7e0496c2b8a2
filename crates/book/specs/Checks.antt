-- What the functions of the reader hand one another: what a check of some bytes has found, in the format's terms.
use Rattle.std.specs.Prelude.{Result, Ok, Err, ⊤}
use Rattle.book.specs.Numbers.{number_of, place_of}
use Rattle.book.specs.Format.{Check, fine, wrong}
use Rattle.book.specs.declared.refusal.Refusal.{Refusal}

abbrev pub checked : Result ⊤ Refusal → Check
checked (Ok u) = fine
checked (Err f) = wrong (number_of f) (place_of f)
