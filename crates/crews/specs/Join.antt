-- What a call of join answers, and what its buffer holds afterwards. Document 02, request 9: "Refusals: 1 to 7 for the first and then the
-- second book, telling which; then 17, more than 255 atoms or rules; then 19, buffer too short for the joined book".
--
--   of_book which number place   a book's refusal, telling which book it is, 1 or 2
--   told             an answer's number and values, case by case
--   laid_of b c room  whether the joined book is within the limits and the room, and its length
--   join_of first second out     the answer and the buffer, of the bytes of the books and of the buffer before
use Rattle.std.specs.Prelude.{List, [], ◌∷◌, ◌++◌, ℕ, ◌+◌, length, drop, Result, Ok, Err}
use Rattle.meaning.specs.Books.{Book, count}
use Rattle.meaning.specs.Choice.{if_lt}
use Rattle.meaning.specs.Joined.{joined}
use Rattle.meaning.specs.Told.{Told, success, refused_with, refused, Answered}
use Rattle.book.specs.Numbers.{number_of, place_of}
use Rattle.book.specs.Format.{BookRead, good, bad, read_of}
use Rattle.book.specs.Writing.{bytes_of_book}
use Rattle.crews.specs.declared.answer.Unjoined.{Unjoined}
use Rattle.crews.specs.declared.answer.Unjoined.TheVariants.{First, Second, TooMany, NoRoom}

abbrev pub of_book : {S : Type 0} → ℕ → ℕ → ℕ → Told S
of_book which number place = refused_with number (which ∷ (place ∷ []))

-- success tells the joined book's length
abbrev pub told : Result ℕ Unjoined → Told ℕ
told (Ok n) = success n
told (Err (First f)) = of_book 1 (number_of f) (place_of f)
told (Err (Second f)) = of_book 2 (number_of f) (place_of f)
told (Err TooMany) = refused 17
told (Err NoRoom) = refused 19

-- nothing is written
abbrev pub only : {S : Type 0} → List ℕ → Told S → Answered S
only out t = record { told = t; buffer = out }

abbrev pub joined_bytes : Book → Book → List ℕ
joined_bytes b c = bytes_of_book (joined b c)

-- the joined book at the front, and the later bytes kept
abbrev pub written : {S : Type 0} → Book → Book → List ℕ → S → Answered S
written b c out s = record { told = success s; buffer = joined_bytes b c ++ drop (length (joined_bytes b c)) out }

unfoldable pub laid_of : Book → Book → ℕ → Result ℕ Unjoined
laid_of b c room =
    if_lt 255 (b.atoms + c.atoms) (Err TooMany)
    (if_lt 255 (count b + count c) (Err TooMany)
    (if_lt room (length (joined_bytes b c)) (Err NoRoom) (Ok (length (joined_bytes b c)))))

unfoldable pub join_laid : Result ℕ Unjoined → Book → Book → List ℕ → Answered ℕ
join_laid (Ok n) b c out = written b c out n
join_laid (Err why) b c out = only out (told (Err why))

abbrev pub join_in : Book → Book → List ℕ → Answered ℕ
join_in b c out = join_laid (laid_of b c (length out)) b c out

-- what two readings make of what is done with two good books
unfoldable pub on_books : {S : Type 0} → BookRead → BookRead → List ℕ → (Book → Book → Answered S) → Answered S
on_books (bad i at) y out f = only out (of_book 1 i at)
on_books (good n k index l) (bad i at) out f = only out (of_book 2 i at)
on_books (good n k index l) (good m j start h) out f = f (record { atoms = n; rules = l }) (record { atoms = m; rules = h })

abbrev pub join_of : List ℕ → List ℕ → List ℕ → Answered ℕ
join_of first second out = on_books (read_of first) (read_of second) out (λ b c. join_in b c out)
