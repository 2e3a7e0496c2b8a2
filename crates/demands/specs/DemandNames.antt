-- What a line with names says (docs/DECISIONS.md, "Rules in words"): demand 3, its twin and the paper that a book has no reading, read over the
-- names and the rules of a text in words. Whoever makes the book of the text, tells whose name a word is, and checks.
--
--   Maker                    of a text and of the three buffers lent: what is told, and the buffers afterwards
--   Asker                    of the text, the number of atoms, where the names start and end, and a word: whose name it is
--   our_maker, our_asker       the functions that the promises of make and atom_named are equations with
--   Making m s book from to  the maker made this book of the text, and gave these places of the names
--   words_in s ≡ says l rs    (of words) the text says the names l and the rules rs
--   book_said l rs            (of words) the book of them
--   NameOf l w a             the word is the name of atom a, and of no other
--   NamesSound q m ask e     accepted for the atom told of a name means that the text's rules make the atom of that name certain, or clear
--   NoneSound m check        accepted without an atom means that the text's rules have no reading
--   DemandNames m ask e      all of it, and that every text is made or refused, and every name told
use Rattle.std.specs.Prelude.{◌≡◌, ◌↔◌, List, [], ◌++◌, ℕ, ◌<◌, ◌≤◌, length, get_or, take, drop, Option, Some}
use Rattle.meaning.specs.declared.AtomNo.{AtomNo}
use Rattle.meaning.specs.declared.kind.Kind.{Kind}
use Rattle.meaning.specs.Books.{Rule}
use Rattle.meaning.specs.Claim.{Holding, Contrary}
use Rattle.meaning.specs.Told.{success, refused_at, refused}
use Rattle.book.specs.Rows.{atom_count}
use Rattle.book.specs.Writing.{bytes_of_book}
use Rattle.checker.specs.Numbers.{accepted, no_reading}
use Rattle.words.specs.Names.{whose_of}
use Rattle.words.specs.Reading.{says, words_in}
use Rattle.words.specs.Make.{Answer, only, make_of}
use Rattle.words.specs.Rows.{WrongAt, TooLong, book_said}
use Rattle.demands.specs.Engine.{Engine}
use Rattle.demands.specs.DemandNone.{Checker}

abbrev pub Maker : Type 0
Maker = List ℕ → List ℕ → List ℕ → List ℕ → Answer

abbrev pub Asker : Type 0
Asker = List ℕ → ℕ → List ℕ → List ℕ → List ℕ → Option AtomNo

abbrev pub our_maker : Maker
our_maker = make_of

abbrev pub our_asker : Asker
our_asker = whose_of

pub record Making (m : Maker) (s book from to : List ℕ) : Type 0 where
  -- the buffers as they were lent
  pub out : List ℕ
  pub starts : List ℕ
  pub ends : List ℕ
  pub size : ℕ
  pub told : (m s out starts ends).told ≡ success size
  pub bytes : book ≡ take size (m s out starts ends).book
  pub begins : from ≡ (m s out starts ends).from
  pub stops : to ≡ (m s out starts ends).to

pub record NameOf (l : List (List ℕ)) (w : List ℕ) (a : AtomNo) : Type 0 where
  pub below : a.0 < length l
  pub name : get_or l a.0 [] ≡ w
  pub only : (i : ℕ) → i < length l → get_or l i [] ≡ w → i ≡ a.0

-- whoever wrote the paper; the atoms are counted as the book counts them
abbrev pub NamesSound : Kind → Maker → Asker → Engine → Type 0
NamesSound q m ask e = (s book from to : List ℕ) → Making m s book from to → (w : List ℕ) (a : AtomNo)
    → ask s (atom_count book) from to w ≡ Some a → (paper : List ℕ) → e.check book paper ≡ accepted q a
    → (l : List (List ℕ)) × (rs : List Rule) × (words_in s ≡ says l rs) × NameOf l w a × Holding q (book_said l rs) a

abbrev pub NoneSound : Maker → Checker → Type 0
NoneSound m check = (s book from to : List ℕ) → Making m s book from to → (paper : List ℕ) → check book paper ≡ no_reading
    → (l : List (List ℕ)) × (rs : List Rule) × (words_in s ≡ says l rs) × Contrary (book_said l rs)

-- a text that says names and rules is made to their book where there is room for it, and the later bytes are kept
abbrev pub MakesSaid : Maker → Type 0
MakesSaid m = (s out from to : List ℕ) (l : List (List ℕ)) (rs : List Rule) → words_in s ≡ says l rs
    → length (bytes_of_book (book_said l rs)) ≤ length out
    → ((m s out from to).told ≡ success (length (bytes_of_book (book_said l rs))))
    × ((m s out from to).book ≡ bytes_of_book (book_said l rs) ++ drop (length (bytes_of_book (book_said l rs))) out)

-- a word is told with an atom exactly if it is its name
abbrev pub TellsNames : Maker → Asker → Type 0
TellsNames m ask = (s book from to : List ℕ) → Making m s book from to → (l : List (List ℕ)) (rs : List Rule) → words_in s ≡ says l rs
    → (w : List ℕ) (a : AtomNo) → (ask s (atom_count book) from to w ≡ Some a) ↔ NameOf l w a

pub record DemandNames (m : Maker) (ask : Asker) (e : Engine) : Type 0 where
  pub sound : (q : Kind) → NamesSound q m ask e
  pub sound_none : NoneSound m e.check
  pub makes : MakesSaid m
  pub tells : TellsNames m ask
  -- demand 1: 40 to 42 by their rows, 43 where the buffer is too short, and every lent byte as it was
  pub refuses : (s out from to : List ℕ) (i at : ℕ) → ((m s out from to).told ≡ refused_at i at) ↔ WrongAt s i at
  pub refuses-long : (s out from to : List ℕ) → ((m s out from to).told ≡ refused 43) ↔ TooLong s out
  pub keeps : (s out from to : List ℕ) → ((n : ℕ) → (m s out from to).told ≡ success n → ⊥)
      → m s out from to ≡ only (m s out from to).told out from to
