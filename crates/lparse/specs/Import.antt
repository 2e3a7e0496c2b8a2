-- What a call of import answers, and what its buffer holds afterwards. Document 02, request 1: "Refusals: 30 text not in the format or 31
-- another rule type, whichever stands first in the text ..; then 32, no place, the result doesn't fit a book or the buffer lent."
--
--   told_book             an answer's number and values, case by case
--   laid_of b room        whether the book is within the limits and the room, and its length
--   hand_over b out       the book's bytes at the front and the later bytes kept, or 32 and nothing written
--   import_of text out    the answer and the buffer, of the bytes of the text and of the buffer before
use Rattle.std.specs.Prelude.{List, ◌++◌, ℕ, length, drop, Option, Some, None, Result, Ok, Err}
use Rattle.meaning.specs.Choice.{ifb, if_lt}
use Rattle.meaning.specs.Books.{Book}
use Rattle.meaning.specs.Told.{Told, success, refused_at, refused, Answered}
use Rattle.book.specs.Writing.{bytes_of_book}
use Rattle.imported.specs.Making.{made_book, fits_in}
use Rattle.lparse.specs.declared.answer.Unimported.{Unimported}
use Rattle.lparse.specs.declared.answer.Unimported.TheVariants.{Format, Kind, NoFit}
use Rattle.lparse.specs.Reading.{Heard, says, wrong}
use Rattle.lparse.specs.Collect.{text_in, text_of}

-- success tells the book's length
abbrev pub told_book : Result ℕ Unimported → Told ℕ
told_book (Ok n) = success n
told_book (Err (Format place)) = refused_at 30 place
told_book (Err (Kind place)) = refused_at 31 place
told_book (Err NoFit) = refused 32

-- nothing is written
abbrev pub only : List ℕ → Told ℕ → Answered ℕ
only out t = record { told = t; buffer = out }

unfoldable pub laid_of : Book → ℕ → Option ℕ
laid_of b room = ifb (fits_in b) (if_lt room (length (bytes_of_book b)) None (Some (length (bytes_of_book b)))) None

-- the book at the front, and the later bytes kept
abbrev pub book_given : Book → List ℕ → Answered ℕ
book_given b out = record { told = success (length (bytes_of_book b)); buffer = bytes_of_book b ++ drop (length (bytes_of_book b)) out }

unfoldable pub hand_laid : Option ℕ → Book → List ℕ → Answered ℕ
hand_laid (Some n) b out = record { told = success n; buffer = bytes_of_book b ++ drop (length (bytes_of_book b)) out }
hand_laid None b out = only out (refused 32)

abbrev pub hand_over : Book → List ℕ → Answered ℕ
hand_over b out = hand_laid (laid_of b (length out)) b out

unfoldable pub import_heard : Heard → List ℕ → Answered ℕ
import_heard (says p) out = hand_over (made_book (text_of p)) out
import_heard (wrong i at) out = only out (refused_at i at)

abbrev pub import_of : List ℕ → List ℕ → Answered ℕ
import_of text out = import_heard (text_in text) out
