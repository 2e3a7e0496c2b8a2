-- What a call for the counts of a book answers, and what the lent array holds afterwards. Document 02, request 13: "for each book its answer
-- sets, and for each atom in how many it stands"; "a book whose whole walk passes 1,000,000 tries, or that is refused".
--
--   told             an answer's number and values, case by case
--   count_of book limit counts   the answer and the array, of the bytes of the book and of the array before
use Rattle.std.specs.Prelude.{ℕ, List, ◌++◌, length, drop, Result, Ok, Err}
use Rattle.meaning.specs.Books.{Book}
use Rattle.meaning.specs.Written.{nothing}
use Rattle.meaning.specs.Choice.{if_lt}
use Rattle.meaning.specs.Told.{Told, success, refused_at, stopped, Answered}
use Rattle.book.specs.Numbers.{number_of, place_of}
use Rattle.book.specs.Format.{BookRead, good, bad, read_of}
use Rattle.walk.specs.Events.{events}
use Rattle.walk.specs.Readings.{readings}
use Rattle.counting.specs.Counts.{standings}
use Rattle.counting.specs.declared.answer.Uncounted.{Uncounted}
use Rattle.counting.specs.declared.answer.Uncounted.TheVariants.{Stopped, Book as BadBook}

-- success tells how many answer sets there are
abbrev pub told : Result ℕ Uncounted → Told ℕ
told (Ok n) = success n
told (Err (Stopped limit)) = stopped limit
told (Err (BadBook f)) = refused_at (number_of f) (place_of f)

-- the places of the book's atoms get their counts; the others stay as they were, and all of them where the limit is passed
unfoldable pub count_in : Book → ℕ → List ℕ → Answered ℕ
count_in b limit counts =
    if_lt limit (length (events b nothing)) (record { told = stopped limit; buffer = counts })
    (record {
      told = success (length (readings b));
      buffer = standings b.atoms (readings b) ++ drop b.atoms counts;
    })

unfoldable pub count_read : BookRead → ℕ → List ℕ → Answered ℕ
count_read (good n k index l) limit counts = count_in (record { atoms = n; rules = l }) limit counts
count_read (bad i at) limit counts = record { told = refused_at i at; buffer = counts }

unfoldable pub count_of : List ℕ → ℕ → List ℕ → Answered ℕ
count_of book limit counts = count_read (read_of book) limit counts
