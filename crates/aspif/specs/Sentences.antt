-- The sentences of request 12 over any writer and any reader, that is, over what is told and what the buffer holds afterwards as functions of
-- what is handed over. Document 02: "Refusals, none with a place: 33 buffer too short for the text (writer, last); 34 text outside the subset,
-- then 35 doesn't fit a book or the buffer lent (reader)", and document 01: "a refusal changes no byte of any buffer lent to it".
--
--   Caller           what a call is told and what it leaves in the buffer
--   Exports e        when e writes, when it refuses and with what
--   RestoresAll r    when r gives a book, when it refuses and with what
--   GoesRound e r    "reading what was written gives the same book, byte for byte"
use Rattle.std.specs.Prelude.{◌≡◌, ◌↔◌, List, ℕ, ◌<◌, ◌≤◌, length, take}
use Rattle.meaning.specs.Books.{Rule, Book}
use Rattle.meaning.specs.Told.{success, refused_at, refused, Answered}
use Rattle.book.specs.Rows.{Bytes}
use Rattle.book.specs.Format.{good, bad, read_of, book_in}
use Rattle.book.specs.Writing.{Fits, bytes_of_book}
use Rattle.aspif.specs.Text.{text_of, Formed}
use Rattle.aspif.specs.Handing.{at_front}

-- the bytes handed over and the buffer before
abbrev pub Caller : Type 0
Caller = List ℕ → List ℕ → Answered ℕ

-- nothing is written but on a success
abbrev pub Keeps : Caller → Type 0
Keeps c = (s before : List ℕ) → ((n : ℕ) → (c s before).told ≡ success n → ⊥) → (c s before).buffer ≡ before

pub record Exports (e : Caller) : Type 0 where
  pub damaged : (s before : List ℕ) {i at : ℕ} → read_of s ≡ bad i at → (e s before).told ≡ refused_at i at
  pub short : (s before : List ℕ) {n k index : ℕ} {l : List Rule} → read_of s ≡ good n k index l
      → ((e s before).told ≡ refused 33) ↔ (length before < length (text_of (book_in s)))
  pub writes : (s before : List ℕ) {n k index : ℕ} {l : List Rule} → read_of s ≡ good n k index l → length (text_of (book_in s)) ≤ length before
      → e s before ≡ record { told = success (length (text_of (book_in s))); buffer = at_front (text_of (book_in s)) before }
  pub keeps : Keeps e

pub record RestoresAll (r : Caller) : Type 0 where
  pub none : (s before : List ℕ) → ((r s before).told ≡ refused 34) ↔ ((b : Book) → Formed s b → ⊥)
  pub over : (s before : List ℕ)
      → ((r s before).told ≡ refused 35) ↔ ((b : Book) × Formed s b × (Fits b → length before < length (bytes_of_book b)))
  pub gives : (s before : List ℕ) (b : Book) → Formed s b → Fits b → length (bytes_of_book b) ≤ length before
      → r s before ≡ record { told = success (length (bytes_of_book b)); buffer = at_front (bytes_of_book b) before }
  pub keeps : Keeps r

-- for every book of bytes that e writes, and every room that the book has place in
abbrev pub GoesRound : Caller → Caller → Type 0
GoesRound e r =
    (s before room : List ℕ) (m : ℕ) → Bytes s → (e s before).told ≡ success m → length s ≤ length room
    → r (take m (e s before).buffer) room ≡ record { told = success (length s); buffer = at_front s room }
