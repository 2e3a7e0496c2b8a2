-- What a call of log answers, and what its buffer holds afterwards. Document 02, request 9: "the log must say which book has none, or that
-- neither has any, or 9 when either search passes its own L, even if the other book has none"; "9 comes after all of these".
--
--   Entry            which of the two books have an answer set; and the joined book's length
--   told             an answer's number and values, case by case
--   searched b limit how the search for an answer set of a book ends; passed: at its limit; found: with one
--   log_of first second limit other out   the answer and the buffer, of the bytes of the books, their limits and the buffer before
use Rattle.std.specs.Prelude.{Bool, true, false, List, ℕ, length, Result, Ok, Err}
use Rattle.meaning.specs.Books.{Book}
use Rattle.meaning.specs.Choice.{ifb}
use Rattle.meaning.specs.Told.{Told, success, refused, stopped, Answered}
use Rattle.book.specs.Numbers.{number_of, place_of}
use Rattle.book.specs.Format.{read_of}
use Rattle.walk.specs.Find.{first_walk}
use Rattle.walk.specs.declared.tally.Halt.{Halt}
use Rattle.walk.specs.declared.tally.Halt.TheVariants.{Going, Full, Limit}
use Rattle.crews.specs.Join.{of_book, only, written, laid_of, on_books}
use Rattle.crews.specs.declared.answer.Logged.{Logged}
use Rattle.crews.specs.declared.answer.Logged.TheVariants.{Both, NoneInFirst, NoneInSecond, NoneInEither}
use Rattle.crews.specs.declared.answer.Unlogged.{Unlogged}
use Rattle.crews.specs.declared.answer.Unlogged.TheVariants.{Stopped, First, Second, TooMany, NoRoom}
use Rattle.crews.specs.declared.answer.Unjoined.{Unjoined}
use Rattle.crews.specs.declared.answer.Unjoined.TheVariants.{First as NotFirst, Second as NotSecond, TooMany as Over, NoRoom as Short}

pub data Entry : Type 0 where
  both : ℕ → Entry
  none_in_first : ℕ → Entry
  none_in_second : ℕ → Entry
  none_in_either : ℕ → Entry

abbrev pub told : Result Logged Unlogged → Told Entry
told (Ok (Both n)) = success (both n)
told (Ok (NoneInFirst n)) = success (none_in_first n)
told (Ok (NoneInSecond n)) = success (none_in_second n)
told (Ok (NoneInEither n)) = success (none_in_either n)
told (Err (Stopped limit)) = stopped limit
told (Err (First f)) = of_book 1 (number_of f) (place_of f)
told (Err (Second f)) = of_book 2 (number_of f) (place_of f)
told (Err TooMany) = refused 17
told (Err NoRoom) = refused 19

-- why two books that are not joined are not logged
abbrev pub unlogged : Unjoined → Unlogged
unlogged (NotFirst f) = First f
unlogged (NotSecond f) = Second f
unlogged Over = TooMany
unlogged Short = NoRoom

-- how the search for an answer set of a book ends: Full with one, Going with none, Limit at its limit
abbrev pub searched : Book → ℕ → Halt
searched b limit = (first_walk b limit).tally.halt

unfoldable pub passed : Halt → Bool
passed Limit = true
passed Full = false
passed Going = false

unfoldable pub found : Halt → Bool
found Full = true
found Going = false
found Limit = false

unfoldable pub entry_of : Bool → Bool → ℕ → Entry
entry_of true true n = both n
entry_of false true n = none_in_first n
entry_of true false n = none_in_second n
entry_of false false n = none_in_either n

-- behind both searches, each with its own limit: the first book's 9 comes first, and on a 9 nothing is written
unfoldable pub after_search : Halt → Halt → ℕ → Book → Book → ℕ → ℕ → List ℕ → Answered Entry
after_search one two n b c limit other out =
    ifb (passed one) (only out (stopped limit))
    (ifb (passed two) (only out (stopped other)) (written b c out (entry_of (found one) (found two) n)))

unfoldable pub log_laid : Result ℕ Unjoined → Book → Book → ℕ → ℕ → List ℕ → Answered Entry
log_laid (Ok n) b c limit other out = after_search (searched b limit) (searched c other) n b c limit other out
log_laid (Err why) b c limit other out = only out (told (Err (unlogged why)))

abbrev pub log_in : Book → Book → ℕ → ℕ → List ℕ → Answered Entry
log_in b c limit other out = log_laid (laid_of b c (length out)) b c limit other out

abbrev pub log_of : List ℕ → List ℕ → ℕ → ℕ → List ℕ → Answered Entry
log_of first second limit other out = on_books (read_of first) (read_of second) out (λ b c. log_in b c limit other out)
