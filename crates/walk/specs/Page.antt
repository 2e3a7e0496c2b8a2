-- A page of readings: the next rows of a listing that has come as far as a given reading. Document 01, "Worked books": "The program
-- `readings` reads a book on standard input and prints all answer sets with L = 1,000,000." Listing all readings page by page makes each
-- counted try once; going down again to where a page ended costs one closing a level and no try.
--
--   told                  an answer's values, case by case
--   set_in row             the set that a row stands for
--   events_from b tries x  all events at the start, when no try was made; later those after the reading x
--   page_of book limit tries last out   the answer and the buffer: of the bytes of the book, the limit, the tries made so far, the last row
--                         of the page before, and the bytes of the buffer
use Rattle.std.specs.Prelude.{List, ℕ, zero, suc, ◌/◌, eqb, length, get_or, Result, Ok, Err}
use Rattle.meaning.specs.Books.{Atoms, Book}
use Rattle.meaning.specs.Written.{nothing}
use Rattle.meaning.specs.Choice.{if_lt, if_eq}
use Rattle.meaning.specs.Told.{Told, success, refused_at, refused, Answered}
use Rattle.book.specs.Numbers.{number_of, place_of}
use Rattle.book.specs.Format.{BookRead, good, bad, read_of}
use Rattle.walk.specs.Events.{Event, events, rest}
use Rattle.walk.specs.Run.{State, run}
use Rattle.walk.specs.Find.{start_at}
use Rattle.walk.specs.declared.tally.Halt.{Halt}
use Rattle.walk.specs.declared.tally.Halt.TheVariants.{Going, Full, Limit}
use Rattle.walk.specs.declared.page_answer.Page.{Page}
use Rattle.walk.specs.declared.page_answer.Page.TheVariants.{Whole, Last, Cut}
use Rattle.walk.specs.declared.page_answer.NoPage.{NoPage}
use Rattle.walk.specs.declared.page_answer.NoPage.TheVariants.{Book as BadBook, NoRoom}

-- success tells how the page ended: it is full, and all tries so far; it is the last one, all tries and its rows; or the limit cut it, and
-- its rows
pub data PageEnd : Type 0 where
  whole : ℕ → PageEnd
  last : ℕ → ℕ → PageEnd
  cut : ℕ → PageEnd

abbrev pub told : Result Page NoPage → Told PageEnd
told (Ok (Whole tries)) = success (whole tries)
told (Ok (Last tries rows)) = success (last tries rows)
told (Ok (Cut rows)) = success (cut rows)
told (Err (BadBook f)) = refused_at (number_of f) (place_of f)
told (Err NoRoom) = refused 8

unfoldable pub set_in : List ℕ → Atoms
set_in row a = eqb (get_or row a.0 0) 1

unfoldable pub events_from : Book → ℕ → Atoms → List Event
events_from b zero x = events b nothing
events_from b (suc n) x = rest b nothing x

-- the rows that a buffer of n bytes has room for; a book without atoms has one reading at most, of no bytes
unfoldable pub room_in : Book → ℕ → ℕ
room_in b n = if_eq b.atoms 0 1 (n / b.atoms)

unfoldable pub ended_by : Halt → State → PageEnd
ended_by Going s = last s.tally.tries s.tally.sets
ended_by Full s = whole s.tally.tries
ended_by Limit s = cut s.tally.sets

abbrev pub paged_by : State → Answered PageEnd
paged_by s = record { told = success (ended_by s.tally.halt s); buffer = s.out }

unfoldable pub page_in : Book → ℕ → ℕ → List ℕ → List ℕ → Answered PageEnd
page_in b limit tries row out =
    if_lt (length out) b.atoms (record { told = refused 8; buffer = out })
    (paged_by (run b (record { pass = 0; room = room_in b (length out); limit = limit })
    (start_at tries out) (events_from b tries (set_in row))))

unfoldable pub page_read : BookRead → ℕ → ℕ → List ℕ → List ℕ → Answered PageEnd
page_read (good n r index l) limit tries row out = page_in (record { atoms = n; rules = l }) limit tries row out
page_read (bad i at) limit tries row out = record { told = refused_at i at; buffer = out }

unfoldable pub page_of : List ℕ → ℕ → ℕ → List ℕ → List ℕ → Answered PageEnd
page_of book limit tries row out = page_read (read_of book) limit tries row out
