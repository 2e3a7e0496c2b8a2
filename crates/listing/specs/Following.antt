-- How a listing goes on from page to page, and what it has listed at its end. Document 01, "Worked books".
--
--   Follows atoms before size page row step    what one page makes of the listing: of the atoms of the book, the readings listed before,
--                         the bytes of a page, what the call for it answered, and the row kept for the next call
--   Shown b limit end    the readings listed and the tries at the end are those of the fixed walk
use Rattle.std.specs.Prelude.{◌≡◌, ℕ, ◌+◌, ◌<◌, ◌≤◌, List, [], length, Option, Some, None, Result, Ok, Err}
use Rattle.meaning.specs.Books.{Book}
use Rattle.meaning.specs.Written.{nothing}
use Rattle.meaning.specs.Told.{Told, success, refused_at, refused, Answered}
use Rattle.walk.specs.Events.{events}
use Rattle.walk.specs.Readings.{readings}
use Rattle.walk.specs.Page.{PageEnd, whole, last, cut, room_in}
use Rattle.walk.specs.Listing.{SameRow, last_row, rows_up_to}
use Rattle.talk.specs.declared.refusals.Refused.{Refused}
use Rattle.listing.specs.declared.whole.End.{End}
use Rattle.listing.specs.declared.whole.End.TheVariants.{Ended, Stopped}
use Rattle.listing.specs.declared.whole.Step.{Step}
use Rattle.listing.specs.declared.whole.Step.TheVariants.{Goes, Done}

-- a refusal, as it is told
abbrev pub told_at : ℕ → Option ℕ → Told PageEnd
told_at n (Some place) = refused_at n place
told_at n None = refused n

abbrev pub refusal_of : Refused → Told PageEnd
refusal_of f = told_at f.number f.place

-- the rows of a book with so many atoms lie as those of any other
abbrev pub atoms_only : ℕ → Book
atoms_only n = record { atoms = n; rules = [] }

unfoldable pub Follows : ℕ → ℕ → ℕ → Answered PageEnd → List ℕ → Result Step Refused → Type 0
Follows atoms before size page row (Ok (Goes sets more)) =
    (page.told ≡ success (whole more)) × (sets ≡ before + room_in (atoms_only atoms) size)
    × SameRow row (last_row (atoms_only atoms) (room_in (atoms_only atoms) size) page.buffer)
Follows atoms before size page row (Ok (Done (Ended sets all))) =
    (rows : ℕ) × (page.told ≡ success (last all rows)) × (sets ≡ before + rows)
Follows atoms before size page row (Ok (Done (Stopped sets))) = (rows : ℕ) × (page.told ≡ success (cut rows)) × (sets ≡ before + rows)
Follows atoms before size page row (Err f) = page.told ≡ refusal_of f

unfoldable pub Shown : Book → ℕ → Result End Refused → Type 0
Shown b limit (Ok (Ended sets all)) = (sets ≡ length (readings b)) × (all ≡ length (events b nothing)) × (all ≤ limit)
Shown b limit (Ok (Stopped sets)) = (sets ≡ length (rows_up_to b limit)) × (limit < length (events b nothing))
Shown b limit (Err f) = ⊥
