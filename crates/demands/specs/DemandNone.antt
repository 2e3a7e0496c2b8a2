-- The demands as they speak of papers that a book has no reading (docs/DECISIONS.md, "A paper that a book has no reading"): the twin of
-- demand 3 without an atom, and what demands 1 and 2 say of a call for such a paper. Whoever answers, whatever it is made of.
--
--   Contradictor               writes such papers: of the book, the limit and the buffer lent
--   Checker                    checks papers: of the book and the paper
--   NoneCall book b limit n    a call whose book is good, and for which the fixed walk's n tries to answer set 1 or to its end are enough
--   Contrary b                 (of meaning) the book has no answer set
--   bare_for b NoReading        (of writer) the engine's own paper, by document 01's order of steps, without a witness
--   Needs b es k n             (of walk) as in demand 2
--   DemandNone f check         all of it
--
-- There is always one such number of tries (proofs/Calls), so nothing is said of no call.
use Rattle.std.specs.Prelude.{◌≡◌, List, ◌++◌, ◌⊎◌, ◌↔◌, ℕ, ◌≤◌, ◌<◌, length, take, drop}
use Rattle.meaning.specs.Books.{Atoms, Book}
use Rattle.meaning.specs.AnswerSet.{AnswerSet}
use Rattle.meaning.specs.declared.kind.Claim.{Claim}
use Rattle.meaning.specs.declared.kind.Claim.TheVariants.{NoReading}
use Rattle.meaning.specs.Claim.{Contrary}
use Rattle.meaning.specs.Paper.{Keeps, paper_bytes}
use Rattle.meaning.specs.Told.{Told, refused_at, refused, stopped, Answered}
use Rattle.meaning.specs.Written.{nothing}
use Rattle.book.specs.Rows.{Bytes}
use Rattle.walk.specs.Events.{events}
use Rattle.walk.specs.Tries.{Needs}
use Rattle.writer.specs.PaperNeeds.{bare_for}
use Rattle.writer.specs.Write.{Handed, paper}
use Rattle.checker.specs.Numbers.{no_reading}
use Rattle.demands.specs.Damaged.{GoodBook, DamagedBook}

abbrev pub Contradictor : Type 0
Contradictor = List ℕ → ℕ → List ℕ → Answered Handed

abbrev pub Checker : Type 0
Checker = List ℕ → List ℕ → Told Claim

pub record NoneCall (book : List ℕ) (b : Book) (limit n : ℕ) : Type 0 where
  pub bytes : Bytes book
  pub good_book : GoodBook book b
  pub needs : Needs b (events b nothing) 1 n
  pub within : n ≤ limit

-- accepted means that the book has no answer set, whoever wrote the paper
abbrev pub SoundNone : Checker → Type 0
SoundNone check = (book s : List ℕ) → check book s ≡ no_reading → (b : Book) × GoodBook book b × Contrary b

-- every paper that keeps the rules and is at most 60,000 bytes is accepted
abbrev pub CompleteNone : Checker → Type 0
CompleteNone check = (book s : List ℕ) (b : Book) → GoodBook book b → Keeps b NoReading s → length s ≤ paper_bytes → check book s ≡ no_reading

-- where there is no answer set the engine's own paper keeps the rules and stands in the buffer, the later bytes are kept, and the fixed
-- walk's tries and the length are told
abbrev pub WritesNone : Contradictor → Type 0
WritesNone f = (book : List ℕ) (b : Book) (limit n : ℕ) (buffer : List ℕ) → NoneCall book b limit n → Contrary b
    → length (bare_for b NoReading) ≤ length buffer → length (bare_for b NoReading) ≤ paper_bytes
    → Keeps b NoReading (bare_for b NoReading)
    × ((f book limit buffer).told ≡ paper n (length (bare_for b NoReading)))
    × ((f book limit buffer).buffer ≡ bare_for b NoReading ++ drop (length (bare_for b NoReading)) buffer)

-- unless it passes the room given or 60,000 bytes: then 14, and only then
abbrev pub TellsLengthNone : Contradictor → Type 0
TellsLengthNone f = (book : List ℕ) (b : Book) (limit n : ℕ) (buffer : List ℕ) → NoneCall book b limit n → Contrary b
    → ((f book limit buffer).told ≡ refused 14)
    ↔ ((length buffer < length (bare_for b NoReading)) ⊎ (paper_bytes < length (bare_for b NoReading)))

-- where there is an answer set 38, and only there
abbrev pub TellsReading : Contradictor → Type 0
TellsReading f = (book : List ℕ) (b : Book) (limit n : ℕ) (buffer : List ℕ) → NoneCall book b limit n
    → ((f book limit buffer).told ≡ refused 38) ↔ ((x : Atoms) × AnswerSet b x)

-- whatever the call was: where a paper is told, the book is good, and such a paper stands in the buffer
abbrev pub WritesOnlyNone : Contradictor → Type 0
WritesOnlyNone f = (book : List ℕ) → Bytes book → (limit : ℕ) (buffer : List ℕ) (t n : ℕ) → (f book limit buffer).told ≡ paper t n
    → (b : Book) × GoodBook book b × (n ≤ paper_bytes) × (n ≤ length buffer) × Keeps b NoReading (take n (f book limit buffer).buffer)
    × (drop n (f book limit buffer).buffer ≡ drop n buffer)

-- demand 2: it stops at the tries limit exactly when the fixed walk to answer set 1 needs more tries
abbrev pub ContradictStops : Contradictor → Type 0
ContradictStops f = (book : List ℕ) (b : Book) (limit : ℕ) (buffer : List ℕ) → Bytes book → GoodBook book b
    → ((f book limit buffer).told ≡ stopped limit) ↔ ((n : ℕ) × Needs b (events b nothing) 1 n × (limit < n))

pub record DemandNone (f : Contradictor) (check : Checker) : Type 0 where
  pub sound : SoundNone check
  pub complete : CompleteNone check
  pub writes : WritesNone f
  pub writes-only : WritesOnlyNone f
  pub tells-length : TellsLengthNone f
  pub tells-reading : TellsReading f
  pub stops : ContradictStops f
  -- demand 1: a damaged book by its row, and every lent byte as it was on any answer but a paper
  pub contradict-book : (book : List ℕ) (limit : ℕ) (buffer : List ℕ) (i at : ℕ)
      → ((f book limit buffer).told ≡ refused_at i at) ↔ DamagedBook book i at
  pub contradict-keeps : (book : List ℕ) (limit : ℕ) (buffer : List ℕ)
      → ((t n : ℕ) → (f book limit buffer).told ≡ paper t n → ⊥) → (f book limit buffer).buffer ≡ buffer
