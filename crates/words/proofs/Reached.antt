-- What a text that is read says: its rules are a book's, and its names are names, no two the same. Every state reached keeps both.
use mathlib.Core.Path.{◌≡◌, refl}
use mathlib.Core.List.{List, [], ◌∷◌}
use Prim.{tt, Unit}
use Prim.Native.Nat.{ℕ}
use lib.ListN.{length}
use Rattle.std.specs.Prelude.{Ok, Err}
use Rattle.meaning.specs.Books.{count}
use Rattle.book.specs.Format.{good, read_of}
use Rattle.book.specs.Writing.{Fits, records_bytes, bytes_of_book}
use Rattle.book.proofs.ReadBack.{read-write}
use Rattle.words.specs.declared.due.Ended.{Ended}
use Rattle.words.specs.declared.due.Ended.TheVariants.{Nothing as Blank, Rule as Closes, Missing}
use Rattle.words.specs.declared.decision.Misplaced.TheVariants.{Form as BadForm, Name as BadName, TooMany as OneTooMany}
use Rattle.words.specs.Words.{Word, Piece, word, line, pieces}
use Rattle.words.specs.Moves.{ended_of}
use Rattle.words.specs.Reading.{Decision, State, Outcome, goes, wrong, on_decision, decision_of, on_ended, on_piece, and_then, follow, follow_at, heard, book_of, start}
use Rattle.words.specs.Progress.{Good}
use Rattle.words.proofs.Good.{good_start, good-blank, good-closed, good-word}

-- ---- what every piece keeps, every text keeps

unfoldable pub Keeps : (State → Type 0) → Outcome → Type 0
Keeps I (goes s) = I s
Keeps I (wrong i place) = Unit {0}

pub then_keeps : (I : State → Type 0) (o : Outcome) (f : State → Outcome) → Keeps I o → ((s : State) → I s → Keeps I (f s))
    → Keeps I (and_then o f)
unfolding Keeps and_then
then_keeps I (goes s) f h k = k s h
then_keeps I (wrong i place) f h k = tt

module _ (I : State → Type 0) (step : (p : Piece) (s : State) → I s → Keeps I (on_piece p s)) where
  follow-keeps : (ps : List Piece) (s : State) → I s → Keeps I (follow ps s)
  unfolding Keeps follow
  follow-keeps [] s h = h
  follow-keeps (p ∷ ps) s h = then_keeps I (on_piece p s) (follow ps) (step p s h) (λ t k. follow-keeps ps t k)

  pub heard-keeps : I start → (text : List ℕ) (s : State) → heard text ≡ goes s → I s
  unfolding Keeps follow_at
  heard-keeps h text s e = let k : Keeps I (heard text) = follow-keeps (pieces text) start h in rw e at k

-- ---- the rules are a book's

good-decided : (s : State) (g : Good s) (w : Word) (d : Decision) → decision_of w.bytes s ≡ d → Keeps Good (on_decision d w s)
unfolding Keeps on_decision
good-decided s g w (Ok (due, act)) e = good-word s g w w.bytes due act e
good-decided s g w (Err BadForm) e = tt
good-decided s g w (Err BadName) e = tt
good-decided s g w (Err OneTooMany) e = tt

good-ended : (s : State) (g : Good s) (place : ℕ) (e : Ended) → ended_of s.due ≡ e → Keeps Good (on_ended e place s)
unfolding Keeps on_ended
good-ended s g place Blank e = good-blank s g
good-ended s g place Closes e = good-closed s g e
good-ended s g place Missing e = tt

good-piece : (p : Piece) (s : State) → Good s → Keeps Good (on_piece p s)
unfolding on_piece
good-piece (word w) s g = good-decided s g w (decision_of w.bytes s) refl
good-piece (line place) s g = good-ended s g place (ended_of s.due) refl

pub words-fit : (text : List ℕ) (s : State) → heard text ≡ goes s → Fits (book_of s)
words-fit text s e = (heard-keeps Good good-piece good_start text s e).book

-- and so is what is read back from the book's bytes
pub words-good : (text : List ℕ) (s : State) → heard text ≡ goes s
    → read_of (bytes_of_book (book_of s)) ≡ good (length s.names) (count (book_of s)) (length (records_bytes s.rules)) s.rules
words-good text s e = read-write (book_of s) (words-fit text s e)
