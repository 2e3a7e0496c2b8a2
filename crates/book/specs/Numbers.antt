-- What reading a book tells. Document 01, "Numbers given back": "Every answer names the place too, where the table gives one."
use Rattle.std.specs.Prelude.{ℕ, Result, Ok, Err}
use Rattle.meaning.specs.Told.{Told, success, refused_at}
use Rattle.book.specs.declared.refusal.Refusal.{Refusal}
use Rattle.book.specs.declared.refusal.Refusal.TheVariants.{Length, Mark, Trailer, Entry, Record, Atom, Order}
use Rattle.book.specs.declared.reader.Shape.{Shape}

-- success tells a good book's atom count, rule count and start of the index
abbrev pub shape : ℕ → ℕ → ℕ → Told Shape
shape n k index = success (record { atoms = n; rules = k; index = index })

abbrev pub number_of : Refusal → ℕ
number_of Length = 1
number_of (Mark at) = 2
number_of (Trailer at) = 3
number_of (Entry at) = 4
number_of (Record at) = 5
number_of (Atom at) = 6
number_of (Order at) = 7

abbrev pub place_of : Refusal → ℕ
place_of Length = 0
place_of (Mark at) = at
place_of (Trailer at) = at
place_of (Entry at) = at
place_of (Record at) = at
place_of (Atom at) = at
place_of (Order at) = at

abbrev pub told : Result Shape Refusal → Told Shape
told (Ok s) = success s
told (Err f) = refused_at (number_of f) (place_of f)
