-- Demand 3 and its twin. "A separate checker takes a book and a paper naming one atom. If it accepts, then, whoever wrote the paper, the book
-- has an answer set and the atom is in all of them. Every paper that keeps the printed rules and is at most 60,000 bytes is accepted. When
-- the atom is in all answer sets, and there is at least one, the engine writes such a paper unless document 01's walks pass the tries limit
-- or its paper passes the room given or 60,000 bytes." Document 02, request 2: "Demand 3 gains its twin: accepted means at least one answer
-- set and the atom in none." Both are one record, over the kind of claim.
--
--   InLimit b claim limit x m    document 01's walks do not pass the limit: answer set 1 is x, and the paper's walk needs m tries
--   Holding q b a            (of meaning) the atom is certain, or it is clear
--   lacking q                (of writer) 12 for a naming, 18 for a clearing
--   paper_for b claim x       (of writer) the engine's own paper as document 01 describes it, with the witness of x
--   Papers q e               the sentences of a demand for papers of one kind
--
-- That the checker is separate is shown by crates.txt: it stands on book and meaning only.
use Rattle.std.specs.Prelude.{◌≡◌, List, ◌++◌, ◌⊎◌, ◌↔◌, ℕ, ◌≤◌, ◌<◌, length, take, drop}
use Rattle.meaning.specs.declared.AtomNo.{AtomNo}
use Rattle.meaning.specs.Books.{Atoms, Book}
use Rattle.meaning.specs.declared.kind.Kind.{Kind}
use Rattle.meaning.specs.declared.kind.Kind.TheVariants.{Naming, Clearing}
use Rattle.meaning.specs.declared.kind.Claim.{Claim}
use Rattle.meaning.specs.Claim.{claim, Holding}
use Rattle.meaning.specs.Paper.{Keeps, paper_bytes}
use Rattle.meaning.specs.Told.{refused}
use Rattle.book.specs.Rows.{Bytes}
use Rattle.meaning.specs.Written.{nothing}
use Rattle.walk.specs.Events.{events}
use Rattle.walk.specs.Tries.{Kth}
use Rattle.writer.specs.PaperNeeds.{PaperNeeds, paper_for}
use Rattle.writer.specs.Write.{paper, lacking}
use Rattle.checker.specs.Numbers.{accepted}
use Rattle.checker.specs.Rows.{atom_of, kind_of}
use Rattle.demands.specs.Engine.{Engine}
use Rattle.demands.specs.Damaged.{GoodBook}
use Rattle.demands.specs.Demand2.{Asking}

-- "If it accepts, then, whoever wrote the paper, the book has an answer set and the atom is in all of them": the atom that the paper names
-- or clears, and the kind that its mark says
abbrev pub Sound : Kind → Engine → Type 0
Sound q e = (book s : List ℕ) (a : AtomNo) → e.check book s ≡ accepted q a
    → (a ≡ atom_of s) × (q ≡ kind_of s) × ((b : Book) × GoodBook book b × Holding q b a)

-- "Every paper that keeps the printed rules and is at most 60,000 bytes is accepted."
abbrev pub Complete : Kind → Engine → Type 0
Complete q e = (book s : List ℕ) (b : Book) (a : AtomNo) → GoodBook book b → Keeps b (claim q a) s → length s ≤ paper_bytes
    → e.check book s ≡ accepted q a

pub record InLimit (b : Book) (k : Claim) (limit : ℕ) (x : Atoms) (m : ℕ) : Type 0 where
  pub tries : ℕ
  pub first : Kth b (events b nothing) 1 tries x
  pub first-within : tries ≤ limit
  pub needs : PaperNeeds b k m
  pub paper-within : m ≤ limit

-- "the engine writes such a paper unless ...": its own paper keeps the printed rules and stands in the buffer, the later bytes are kept,
-- and the tries and the length are told
abbrev pub Writes : Kind → Engine → Type 0
Writes q e = (book : List ℕ) (b : Book) (a : AtomNo) (limit : ℕ) (buffer : List ℕ) → Asking book b a → Holding q b a
    → (x : Atoms) (m : ℕ) → InLimit b (claim q a) limit x m
    → length (paper_for b (claim q a) x) ≤ length buffer → length (paper_for b (claim q a) x) ≤ paper_bytes
    → Keeps b (claim q a) (paper_for b (claim q a) x)
    × ((e.write q book a limit buffer).told ≡ paper m (length (paper_for b (claim q a) x)))
    × ((e.write q book a limit buffer).buffer ≡ paper_for b (claim q a) x ++ drop (length (paper_for b (claim q a) x)) buffer)

-- "or its paper passes the room given or 60,000 bytes": then 14, and only then
abbrev pub TellsLength : Kind → Engine → Type 0
TellsLength q e = (book : List ℕ) (b : Book) (a : AtomNo) (limit : ℕ) (buffer : List ℕ) → Asking book b a → Holding q b a
    → (x : Atoms) (m : ℕ) → InLimit b (claim q a) limit x m
    → ((e.write q book a limit buffer).told ≡ refused 14)
    ↔ ((length buffer < length (paper_for b (claim q a) x)) ⊎ (paper_bytes < length (paper_for b (claim q a) x)))

-- "When the atom is in all answer sets": where it is not, 12, and only there; 18, "when an answer set holds the atom"
abbrev pub TellsLacking : Kind → Engine → Type 0
TellsLacking q e = (book : List ℕ) (b : Book) (a : AtomNo) (limit : ℕ) (buffer : List ℕ) → Asking book b a
    → (x : Atoms) (m : ℕ) → InLimit b (claim q a) limit x m
    → ((e.write q book a limit buffer).told ≡ refused (lacking q)) ↔ (Holding q b a → ⊥)

-- whatever the call was: where a paper is told, the book is good, and such a paper stands in the buffer
abbrev pub WritesOnly : Kind → Engine → Type 0
WritesOnly q e = (book : List ℕ) → Bytes book → (a : AtomNo) (limit : ℕ) (buffer : List ℕ)
    → (t n : ℕ) → (e.write q book a limit buffer).told ≡ paper t n
    → (b : Book) × GoodBook book b × (n ≤ paper_bytes) × (n ≤ length buffer) × Keeps b (claim q a) (take n (e.write q book a limit buffer).buffer)
    × (drop n (e.write q book a limit buffer).buffer ≡ drop n buffer)

pub record Papers (q : Kind) (e : Engine) : Type 0 where
  pub sound : Sound q e
  pub complete : Complete q e
  pub writes : Writes q e
  pub writes-only : WritesOnly q e
  pub tells-length : TellsLength q e
  pub tells-lacking : TellsLacking q e

abbrev pub Demand3 : Engine → Type 0
Demand3 e = Papers Naming e

abbrev pub Demand3Twin : Engine → Type 0
Demand3Twin e = Papers Clearing e
