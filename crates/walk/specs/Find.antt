-- What a call of find answers, and what its buffer holds afterwards. Document 01, "The walk and its tries" and "Numbers given back":
-- "Finding: 15, 8, then the walk."
--
--   told             an answer's number and values, case by case
--   find_along b es k limit answer   the answer and the buffer, along the events es of a walk
--   find_by walk book k limit answer   the answer and the buffer, of the bytes of the book and of the buffer before; the walk says which
--                    events a book has
--   find_of book k limit answer   the same along the fixed walk
--   first_walk b limit            the walk to answer set 1, for whoever needs no more than that there is one
use Rattle.std.specs.Prelude.{List, ℕ, ◌-◌, length, replicate, Result, Ok, Err}
use Rattle.meaning.specs.Books.{rule_no, Book}
use Rattle.meaning.specs.Written.{nothing}
use Rattle.meaning.specs.Choice.{if_lt, if_eq}
use Rattle.meaning.specs.Told.{Told, success, refused_at, refused, fewer, stopped, Answered}
use Rattle.book.specs.Numbers.{number_of, place_of}
use Rattle.book.specs.Format.{BookRead, good, bad, read_of}
use Rattle.walk.specs.Events.{Event, events}
use Rattle.walk.specs.Run.{State, run}
use Rattle.walk.specs.declared.tally.Halt.{Halt}
use Rattle.walk.specs.declared.tally.Halt.TheVariants.{Going, Full, Limit}
use Rattle.walk.specs.declared.kth.Unfound.{Unfound}
use Rattle.walk.specs.declared.kth.Unfound.TheVariants.{Fewer, Stopped, Book as BadBook, NoRoom, NoNumber, NoList}

-- success tells the tries
abbrev pub set : ℕ → Told ℕ
set tries = success tries

abbrev pub told : Result ℕ Unfound → Told ℕ
told (Ok tries) = set tries
told (Err (Fewer tries sets rule)) = fewer tries sets rule.0
told (Err (Stopped limit)) = stopped limit
told (Err (BadBook f)) = refused_at (number_of f) (place_of f)
told (Err NoRoom) = refused 8
told (Err NoNumber) = refused 15
told (Err NoList) = refused 16

-- so many tries were made before, and none was contradictory as far as the way knows
abbrev pub start_at : ℕ → List ℕ → State
start_at tries out = record { tally = record { tries = tries; sets = 0; clash = rule_no 255; halt = Going }; out = out }

abbrev pub start_of : List ℕ → State
start_of answer = start_at 0 answer

unfoldable pub told_by : Halt → State → ℕ → Told ℕ
told_by Going s limit = fewer s.tally.tries s.tally.sets s.tally.clash.0
told_by Full s limit = set s.tally.tries
told_by Limit s limit = stopped limit

abbrev pub answered_by : State → ℕ → Answered ℕ
answered_by s limit = record { told = told_by s.tally.halt s limit; buffer = s.out }

-- the k-th reading: pass over one less, then write one row
unfoldable pub find_along : Book → List Event → ℕ → ℕ → List ℕ → Answered ℕ
find_along b es k limit answer =
    if_eq k 0 (record { told = refused 15; buffer = answer })
    (if_lt (length answer) b.atoms (record { told = refused 8; buffer = answer })
    (answered_by (run b (record { pass = k - 1; room = 1; limit = limit }) (start_of answer) es) limit))

abbrev pub find_in : Book → ℕ → ℕ → List ℕ → Answered ℕ
find_in b k limit answer = find_along b (events b nothing) k limit answer

unfoldable pub find_read : (Book → List Event) → BookRead → ℕ → ℕ → List ℕ → Answered ℕ
find_read walk (good n r index l) k limit answer =
    find_along (record { atoms = n; rules = l }) (walk (record { atoms = n; rules = l })) k limit answer
find_read walk (bad i at) k limit answer = record { told = refused_at i at; buffer = answer }

unfoldable pub find_by : (Book → List Event) → List ℕ → ℕ → ℕ → List ℕ → Answered ℕ
find_by walk book k limit answer = find_read walk (read_of book) k limit answer

abbrev pub fixed_walk : Book → List Event
fixed_walk b = events b nothing

abbrev pub find_of : List ℕ → ℕ → ℕ → List ℕ → Answered ℕ
find_of = find_by fixed_walk

unfoldable pub first_walk : Book → ℕ → State
first_walk b limit = run b (record { pass = 0; room = 1; limit = limit }) (start_of (replicate 255 0)) (events b nothing)
