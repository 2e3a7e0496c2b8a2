-- The demands over imported books, of any importer and any engine. Document 02, request 1: "The book made must have exactly the answer sets that
-- obey B+ and B-, up to renumbering"; "Demands 2 and 3 then read over the imported meaning." Request 10: "Demand 2 reads so for imported books,
-- and demand 3 and its twin read so for the text's atoms": Obeying has the choice rule's own definition in it, and back drops the helpers.
--
--   Importer             of a text and a lent buffer: what is told, and the buffer afterwards
--   our_importer          the function that the promise of import is an equation with
--   Says s t             (of lparse) the bytes are a text of the format that says t
--   MadeOf i s t book    the importer made this book of a text that says t
--   AllObeying t l       the list holds exactly the text's answer sets that obey its lists (Obeying), each once
--   TextHolding q t a    the text's atom is in each of them, or in none, and there is one
--   ImportDemand1 i      30, 31 and 32 exactly if their row holds, and nothing written then; else the book that document 02 describes
--   ImportDemand2 i e    demand 2 of the engine, and of a book made: its readings, taken back to the text, are AllObeying
--   ImportPapers q i e   demand 3 or its twin of the engine, and of a book made: what is accepted of a text atom's number holds of the atom
use Rattle.std.specs.Prelude.{◌≡◌, ◌↔◌, true, ℕ, ◌≤◌, length, take}
use mathlib.Core.List.{List, [], ◌∷◌, map, Memᴰ}
use Rattle.meaning.specs.declared.kind.Kind.{Kind}
use Rattle.meaning.specs.declared.kind.Kind.TheVariants.{Naming, Clearing}
use Rattle.meaning.specs.Books.{Atoms}
use Rattle.meaning.specs.Claim.{Holding}
use Rattle.meaning.specs.Told.{success, refused_at, refused, Answered}
use Rattle.book.specs.Rows.{Bytes}
use Rattle.book.specs.Writing.{bytes_of_book}
use Rattle.walk.specs.Readings.{AllReadings}
use Rattle.checker.specs.Numbers.{accepted}
use Rattle.imported.specs.declared.TextAtom.{TextAtom}
use Rattle.imported.specs.Text.{TextAtoms, Text}
use Rattle.imported.specs.Answers.{Obeying, TextCertain, TextCleared}
use Rattle.imported.specs.Making.{mentioned, image, made_book, fits_in, back}
use Rattle.lparse.specs.Says.{Written, text_said, Says}
use Rattle.lparse.specs.Import.{book_given, import_of}
use Rattle.lparse.specs.Rows.{NotInFormat, AnotherType, TooLarge}
use Rattle.demands.specs.Engine.{Engine}
use Rattle.demands.specs.Damaged.{GoodBook}
use Rattle.demands.specs.Demand2.{Demand2}
use Rattle.demands.specs.Demand3.{Papers}

abbrev pub Importer : Type 0
Importer = List ℕ → List ℕ → Answered ℕ

abbrev pub our_importer : Importer
our_importer = import_of

-- ---- demand 1

-- the text of a book that fits the limits and the buffer is told as that book, and nothing else is
abbrev pub Gives : Importer → Type 0
Gives i = (s out : List ℕ) (w : Written) → Says s w → fits_in (made_book (text_said w)) ≡ true
    → length (bytes_of_book (made_book (text_said w))) ≤ length out → i s out ≡ book_given (made_book (text_said w)) out

pub record ImportDemand1 (i : Importer) : Type 0 where
  pub format : (s out : List ℕ) (at : ℕ) → ((i s out).told ≡ refused_at 30 at) ↔ NotInFormat s at
  pub type : (s out : List ℕ) (at : ℕ) → ((i s out).told ≡ refused_at 31 at) ↔ AnotherType s at
  pub large : (s out : List ℕ) → ((i s out).told ≡ refused 32) ↔ TooLarge s out
  pub keeps : (s out : List ℕ) → ((n : ℕ) → (i s out).told ≡ success n → ⊥) → (i s out).buffer ≡ out
  pub gives : Gives i

-- ---- a book made of a text

pub record MadeOf (i : Importer) (s : List ℕ) (t : Text) (book : List ℕ) : Type 0 where
  pub written : Written
  pub says : Says s written
  pub text : t ≡ text_said written
  pub room : List ℕ
  pub size : ℕ
  pub told : (i s room).told ≡ success size
  pub bytes : book ≡ take size (i s room).buffer

-- demands 2 and 3 speak of it: it is good, and is the book that document 02 describes
abbrev pub MakesGood : Importer → Type 0
MakesGood i = (s : List ℕ) (t : Text) (book : List ℕ) → MadeOf i s t book → GoodBook book (made_book t) × Bytes book

-- ---- demand 2

pub data Different : List TextAtoms → Type 0 where
  none : Different []
  one_more : {x : TextAtoms} {l : List TextAtoms} → ((y : TextAtoms) → Memᴰ y l → ((a : TextAtom) → x a ≡ y a) → ⊥)
      → Different l → Different (x ∷ l)

pub record AllObeying (t : Text) (l : List TextAtoms) : Type 0 where
  pub sound : (y : TextAtoms) → Memᴰ y l → Obeying t y
  pub complete : (y : TextAtoms) → Obeying t y → (z : TextAtoms) × Memᴰ z l × ((a : TextAtom) → y a ≡ z a)
  pub once : Different l

pub record ImportDemand2 (i : Importer) (e : Engine) : Type 0 where
  pub makes-good : MakesGood i
  pub engine : Demand2 e
  pub readings : (s : List ℕ) (t : Text) (book : List ℕ) → MadeOf i s t book → (l : List Atoms) → AllReadings (made_book t) l
      → AllObeying t (map (back t) l)

-- ---- demand 3 and its twin

unfoldable pub TextHolding : Kind → Text → TextAtom → Type 0
TextHolding Naming t a = TextCertain t a
TextHolding Clearing t a = TextCleared t a

pub record ImportPapers (q : Kind) (i : Importer) (e : Engine) : Type 0 where
  pub makes-good : MakesGood i
  pub engine : Papers q e
  -- whoever wrote the paper
  pub sound : (s : List ℕ) (t : Text) (book : List ℕ) → MadeOf i s t book → (paper : List ℕ) (a : TextAtom) → Memᴰ a (mentioned t)
      → e.check book paper ≡ accepted q (image t a) → TextHolding q t a
  -- so that the engine's sentences on writing, 12, 14 and 18 speak of the text's atom
  pub holds : (t : Text) (a : TextAtom) → Memᴰ a (mentioned t) → Holding q (made_book t) (image t a) ↔ TextHolding q t a

abbrev pub ImportDemand3 : Importer → Engine → Type 0
ImportDemand3 i e = ImportPapers Naming i e

abbrev pub ImportDemand3Twin : Importer → Engine → Type 0
ImportDemand3Twin i e = ImportPapers Clearing i e
