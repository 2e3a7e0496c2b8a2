-- What a call of `export` or `restore` answers, and what its buffer holds afterwards. Document 02, request 12: "Refusals, none with a place:
-- 33 buffer too short for the text (writer, last); 34 text outside the subset, then 35 doesn't fit a book or the buffer lent (reader)."
--
--   told_text, told_book   an answer's number and values, case by case
--   export_of book out    the answer and the buffer of a writer's call
--   Restores s out r after   the answer r and the buffer afterwards of a reader's call
use Rattle.std.specs.Prelude.{List, ◌++◌, ℕ, ◌<◌, ◌≤◌, length, drop, Result, Ok, Err}
use Rattle.meaning.specs.Books.{Book}
use Rattle.meaning.specs.Choice.{if_lt}
use Rattle.meaning.specs.Told.{Told, success, refused_at, refused, Answered}
use Rattle.book.specs.Numbers.{number_of, place_of}
use Rattle.book.specs.Format.{BookRead, good, bad, read_of}
use Rattle.book.specs.Writing.{Fits, bytes_of_book}
use Rattle.aspif.specs.Text.{text_of, Formed}
use Rattle.aspif.specs.declared.answer.Unexported.{Unexported}
use Rattle.aspif.specs.declared.answer.Unexported.TheVariants.{NoRoom}
use Rattle.aspif.specs.declared.answer.Unexported.TheVariants.{Book as BadBook}
use Rattle.aspif.specs.declared.answer.Unrestored.{Unrestored}
use Rattle.aspif.specs.declared.answer.Unrestored.TheVariants.{Outside, NoFit}

-- success tells how many bytes were written
abbrev pub told_text : Result ℕ Unexported → Told ℕ
told_text (Ok n) = success n
told_text (Err (BadBook f)) = refused_at (number_of f) (place_of f)
told_text (Err NoRoom) = refused 33

abbrev pub told_book : Result ℕ Unrestored → Told ℕ
told_book (Ok n) = success n
told_book (Err Outside) = refused 34
told_book (Err NoFit) = refused 35

-- the bytes from byte 0 on; "later bytes are kept"
abbrev pub at_front : List ℕ → List ℕ → List ℕ
at_front l buffer = l ++ drop (length l) buffer

unfoldable pub hand_text : List ℕ → List ℕ → Answered ℕ
hand_text text buffer =
    if_lt (length buffer) (length text) (record { told = refused 33; buffer = buffer })
    (record { told = success (length text); buffer = at_front text buffer })

unfoldable pub export_read : BookRead → List ℕ → Answered ℕ
export_read (good n r index l) buffer = hand_text (text_of (record { atoms = n; rules = l })) buffer
export_read (bad i at) buffer = record { told = refused_at i at; buffer = buffer }

unfoldable pub export_of : List ℕ → List ℕ → Answered ℕ
export_of book buffer = export_read (read_of book) buffer

pub data Restores (s before : List ℕ) : Result ℕ Unrestored → List ℕ → Type 0 where
  -- the text is that of a book that fits, whose bytes are written
  restored : {b : Book} → Formed s b → Fits b → length (bytes_of_book b) ≤ length before
      → Restores s before (Ok (length (bytes_of_book b))) (at_front (bytes_of_book b) before)
  -- 34: the text is that of no book
  outside : ((b : Book) → Formed s b → ⊥) → Restores s before (Err Outside) before
  -- 35: it is that of one which passes the limits, or is longer than the buffer
  misfit : {b : Book} → Formed s b → (Fits b → ⊥) → Restores s before (Err NoFit) before
  no_room : {b : Book} → Formed s b → length before < length (bytes_of_book b) → Restores s before (Err NoFit) before
