-- Demand 2. "Its readings are the answer sets of Gelfond and Lifschitz, each given once, in the order document 01 fixes. A call whose book,
-- numbers and room are good stops at the tries limit exactly when the fixed walk needs more tries; otherwise it says there are fewer than
-- asked exactly when there are fewer."
--
--   Call book b k answer     a call for a reading whose book, numbers and room are good
--   Asking book b a          a call for a paper whose book and number are good
--   Bytes book               (of book) each number is a byte, below 256
--   AllReadings b l          (of walk) the list l holds exactly the answer sets of b, each once, in the order that speaks of no walk
--   events b nothing         (of walk) the tries of the fixed walk, one by one
--   Needs b es k n           (of walk) a walk with the tries es needs n of them for the k-th reading, or to its end where there are fewer
--   last_clash es             (of walk) the rule of the last contradictory try, or 255
--   PaperNeeds b claim n     (of writer) the paper's walk needs n tries
--
-- There is always one such list and one such number of tries (proofs/Calls), so nothing is said of no call.
use Rattle.std.specs.Prelude.{◌≡◌, List, ◌++◌, ◌⊎◌, ◌↔◌, ℕ, ◌-◌, ◌≤◌, ◌<◌, length, get_or, drop}
use Rattle.meaning.specs.declared.AtomNo.{AtomNo}
use Rattle.meaning.specs.declared.kind.Kind.{Kind}
use Rattle.meaning.specs.Books.{Atoms, Book}
use Rattle.meaning.specs.AnswerSet.{AnswerSet}
use Rattle.meaning.specs.Claim.{claim}
use Rattle.meaning.specs.Told.{fewer, stopped}
use Rattle.book.specs.Rows.{Bytes}
use Rattle.meaning.specs.Written.{nothing}
use Rattle.walk.specs.Events.{events}
use Rattle.walk.specs.Readings.{AllReadings}
use Rattle.walk.specs.Tries.{Needs, last_clash}
use Rattle.walk.specs.Run.{row_of}
use Rattle.walk.specs.Find.{set}
use Rattle.writer.specs.PaperNeeds.{PaperNeeds}
use Rattle.demands.specs.Engine.{Engine}
use Rattle.demands.specs.Damaged.{GoodBook}

pub record Call (book : List ℕ) (b : Book) (k : ℕ) (answer : List ℕ) : Type 0 where
  pub bytes : Bytes book
  pub good_book : GoodBook book b
  pub good-number : 0 < k
  pub good-room : b.atoms ≤ length answer

pub record Asking (book : List ℕ) (b : Book) (a : AtomNo) : Type 0 where
  pub bytes : Bytes book
  pub good_book : GoodBook book b
  pub good-number : a.0 < b.atoms

-- "Its readings are the answer sets ..., each given once, in the order document 01 fixes": reading k of the list stands in the buffer, the
-- later bytes are kept, and the tries are those of the fixed walk
abbrev pub GivesReadings : Engine → Type 0
GivesReadings e = (book : List ℕ) (b : Book) (k limit : ℕ) (answer : List ℕ) → Call book b k answer
    → (l : List Atoms) → AllReadings b l → (n : ℕ) → Needs b (events b nothing) k n → n ≤ limit → k ≤ length l
    → ((e.find book k limit answer).told ≡ set n)
    × ((x : Atoms) → (e.find book k limit answer).buffer ≡ row_of b (get_or l (k - 1) x) ++ drop b.atoms answer)

-- "stops at the tries limit exactly when the fixed walk needs more tries"
abbrev pub Stops : Engine → Type 0
Stops e = (book : List ℕ) (b : Book) (k limit : ℕ) (answer : List ℕ) → Call book b k answer
    → ((e.find book k limit answer).told ≡ stopped limit) ↔ ((n : ℕ) × Needs b (events b nothing) k n × (limit < n))

-- "otherwise it says there are fewer than asked exactly when there are fewer", and tells all tries and all readings;
-- document 02: "refusal 11 also gives the rule for the last contradictory try, or 255 if the walk had none"
abbrev pub TellsFewer : Engine → Type 0
TellsFewer e = (book : List ℕ) (b : Book) (k limit : ℕ) (answer : List ℕ) → Call book b k answer
    → (l : List Atoms) → AllReadings b l → (n : ℕ) → Needs b (events b nothing) k n → n ≤ limit
    → ((e.find book k limit answer).told ≡ fewer n (length l) (last_clash (events b nothing))) ↔ (length l < k)

-- the same two of a call for a paper of either kind: "answer set 1 with limit L ...; then the paper's walk with a fresh L"; "fewer than k answer sets
-- (naming: none)"
abbrev pub AskingStops : Engine → Type 0
AskingStops e = (q : Kind) (book : List ℕ) (b : Book) (a : AtomNo) (limit : ℕ) (buffer : List ℕ) → Asking book b a
    → (n m : ℕ) → Needs b (events b nothing) 1 n → PaperNeeds b (claim q a) m
    → ((e.write q book a limit buffer).told ≡ stopped limit)
    ↔ ((limit < n) ⊎ ((n ≤ limit) × ((x : Atoms) × AnswerSet b x) × (limit < m)))

abbrev pub AskingFewer : Engine → Type 0
AskingFewer e = (q : Kind) (book : List ℕ) (b : Book) (a : AtomNo) (limit : ℕ) (buffer : List ℕ) → Asking book b a
    → (n : ℕ) → Needs b (events b nothing) 1 n → n ≤ limit
    → ((e.write q book a limit buffer).told ≡ fewer n 0 (last_clash (events b nothing))) ↔ ((x : Atoms) → AnswerSet b x → ⊥)

pub record Demand2 (e : Engine) : Type 0 where
  pub gives-readings : GivesReadings e
  pub stops : Stops e
  pub tells-fewer : TellsFewer e
  pub asking-stops : AskingStops e
  pub asking-fewer : AskingFewer e
