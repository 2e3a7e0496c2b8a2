-- What a call of make answers, and what its buffers hold afterwards. Refusals: 40, 41 and 42 with their place, whichever word comes first;
-- "43 buffer too short for the book", last. "Nothing is written on a refusal."
--
--   told_book             an answer's number and values, case by case
--   unworded why place    the refusal of a word that starts there, or of a line that ends there
--   filled l             the 255 places of an array that begins with these, the later ones 0
--   Answer               what is told, and what the three buffers hold afterwards
--   make_of ..            the answer and the buffers, of the text and of the buffers before
use Rattle.std.specs.Prelude.{List, ◌++◌, map, ℕ, ◌+◌, ◌-◌, length, drop, replicate, Result, Ok, Err}
use Rattle.meaning.specs.Choice.{if_lt}
use Rattle.meaning.specs.Told.{Told, success, refused_at, refused}
use Rattle.book.specs.Writing.{bytes_of_book}
use Rattle.words.specs.declared.decision.Misplaced.{Misplaced}
use Rattle.words.specs.declared.decision.Misplaced.TheVariants.{Form as BadForm, Name as BadName, TooMany as OneTooMany}
use Rattle.words.specs.declared.answer.Unworded.{Unworded}
use Rattle.words.specs.declared.answer.Unworded.TheVariants.{Form, Name, TooMany, NoRoom}
use Rattle.words.specs.Words.{Word}
use Rattle.words.specs.Reading.{State, Outcome, goes, wrong, heard, book_of}

-- success tells the book's length
abbrev pub told_book : Result ℕ Unworded → Told ℕ
told_book (Ok n) = success n
told_book (Err (Form place)) = refused_at 40 place
told_book (Err (Name place)) = refused_at 41 place
told_book (Err (TooMany place)) = refused_at 42 place
told_book (Err NoRoom) = refused 43

-- the refusal of a word that starts there, or of a line that ends there
abbrev pub unworded : Misplaced → ℕ → Unworded
unworded BadForm place = Form place
unworded BadName place = Name place
unworded OneTooMany place = TooMany place

unfoldable pub filled : List ℕ → List ℕ
filled l = l ++ replicate (255 - length l) 0

abbrev pub starts_of : List Word → List ℕ
starts_of l = map (λ w. w.place) l

abbrev pub ends_of : List Word → List ℕ
ends_of l = map (λ w. w.place + length w.bytes) l

pub record Answer : Type 0 where
  pub told : Told ℕ
  pub book : List ℕ
  pub from : List ℕ
  pub to : List ℕ

-- nothing is written
abbrev pub only : Told ℕ → List ℕ → List ℕ → List ℕ → Answer
only t out from to = record { told = t; book = out; from = from; to = to }

-- the book at the front and the later bytes kept; where each name starts and where it ends
unfoldable pub hand_over : State → List ℕ → List ℕ → List ℕ → Answer
hand_over s out from to =
    if_lt (length out) (length (bytes_of_book (book_of s))) (only (refused 43) out from to) (record {
      told = success (length (bytes_of_book (book_of s)));
      book = bytes_of_book (book_of s) ++ drop (length (bytes_of_book (book_of s))) out;
      from = filled (starts_of s.names);
      to = filled (ends_of s.names);
    })

unfoldable pub make_heard : Outcome → List ℕ → List ℕ → List ℕ → Answer
make_heard (goes s) out from to = hand_over s out from to
make_heard (wrong i place) out from to = only (refused_at i place) out from to

abbrev pub make_of : List ℕ → List ℕ → List ℕ → List ℕ → Answer
make_of text out from to = make_heard (heard text) out from to
