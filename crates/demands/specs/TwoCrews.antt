-- Two crews, one log (document 02, request 9), said of any engine that joins and logs. "The answer sets of the joined book are exactly the
-- unions of one from each, renumbered. So, provided that the other book has at least one answer set, however else it is changed, an atom is
-- certain in the joined book exactly if it was certain in its own. If the other has none, nothing is certain, and the log must say which
-- book has none, or that neither has any, or 9 when either search passes its own L, even if the other book has none."
--
--   Crews            an engine that joins and logs: its answers, and its buffer afterwards, as functions of what it is handed
--   join first second out              joins two books into the lent buffer
--   log first second limit other out   the same, and says which of the two have an answer set; each search has its own limit
--   our_crews         the functions that the promises of join and log are equations with
--   OneBook b c s    the bytes s are a book of both, whatever else its writer says
--   TwoCrews e       the sentences of the request
use Rattle.std.specs.Prelude.{◌≡◌, ◌⊎◌, ◌↔◌, List, ℕ, ◌<◌, length, take}
use Rattle.meaning.specs.declared.AtomNo.{AtomNo}
use Rattle.meaning.specs.declared.kind.Kind.{Kind}
use Rattle.meaning.specs.Books.{Atoms, Book}
use Rattle.meaning.specs.AnswerSet.{AnswerSet}
use Rattle.meaning.specs.Claim.{Holding}
use Rattle.meaning.specs.Joined.{up_atom, united, SomeAnswer}
use Rattle.meaning.specs.Told.{Told, success, refused, Answered}
use Rattle.book.specs.Rows.{Bytes}
use Rattle.crews.specs.Join.{of_book, joined_bytes, written, join_of}
use Rattle.crews.specs.Log.{Entry, both, none_in_first, none_in_second, none_in_either, log_of}
use Rattle.crews.specs.Rows.{OfGood, TooMany, TooShort, Fitting, Logs}
use Rattle.demands.specs.Damaged.{GoodBook, DamagedBook}

pub record Crews : Type 0 where
  pub join : List ℕ → List ℕ → List ℕ → Answered ℕ
  pub log : List ℕ → List ℕ → ℕ → ℕ → List ℕ → Answered Entry

abbrev pub our_crews : Crews
our_crews = record { join = join_of; log = log_of }

-- the joined book's length, in an entry
unfoldable pub length_in : Entry → ℕ
length_in (both n) = n
length_in (none_in_first n) = n
length_in (none_in_second n) = n
length_in (none_in_either n) = n

-- "certain", and clear alike: Holding Naming is Certain, Holding Clearing is Clear
pub record OneBook (b c : Book) (s : List ℕ) : Type 0 where
  pub book : Book
  pub good : GoodBook s book
  pub unions : (z : Atoms) → AnswerSet book z ↔ ((x : Atoms) × (y : Atoms) × AnswerSet b x × AnswerSet c y × (z ≡ united b.atoms x y))
  pub in-first : (q : Kind) (a : AtomNo) → a.0 < b.atoms → Holding q book a ↔ (Holding q b a × SomeAnswer c)
  pub in-second : (q : Kind) (a : AtomNo) → Holding q book (up_atom b.atoms a) ↔ (Holding q c a × SomeAnswer b)
  pub in-neither : (q : Kind) (a : AtomNo) → ((SomeAnswer b → ⊥) ⊎ (SomeAnswer c → ⊥)) → Holding q book a → ⊥

-- "exactly the unions of one from each, renumbered", and what follows: what is joined is a book of both
abbrev pub JoinsOneBook : Crews → Type 0
JoinsOneBook e = (first second out : List ℕ) → Bytes first → Bytes second → (b c : Book) → GoodBook first b → GoodBook second c
    → (n : ℕ) → (e.join first second out).told ≡ success n → OneBook b c (take n (e.join first second out).buffer)

-- "the log must say which book has none, or that neither has any, or 9 when either search passes its own L"
abbrev pub TellsWhich : Crews → Type 0
TellsWhich e = (first second : List ℕ) (limit other : ℕ) (out : List ℕ) → Bytes first → Bytes second → (b c : Book)
    → GoodBook first b → GoodBook second c → Fitting b c (length out) → (t : Told Entry)
    → ((e.log first second limit other out).told ≡ t) ↔ Logs b c limit other (length (joined_bytes b c)) t

-- whatever is told but success, every lent byte is as it was
abbrev pub LogKeeps : Crews → Type 0
LogKeeps e = (first second : List ℕ) (limit other : ℕ) (out : List ℕ)
    → ((v : Entry) → (e.log first second limit other out).told ≡ success v → ⊥) → (e.log first second limit other out).buffer ≡ out

-- "Refusals: 1 to 7 for the first and then the second book, telling which; then 17, more than 255 atoms or rules; then 19, buffer too short
-- for the joined book; 9 comes after all of these."
pub record TwoCrews (e : Crews) : Type 0 where
  pub join_first : (first second out : List ℕ) (i at : ℕ) → ((e.join first second out).told ≡ of_book 1 i at) ↔ DamagedBook first i at
  pub join-second : (first second out : List ℕ) (i at : ℕ)
      → ((e.join first second out).told ≡ of_book 2 i at) ↔ ((b : Book) × GoodBook first b × DamagedBook second i at)
  pub join-many : (first second out : List ℕ) → ((e.join first second out).told ≡ refused 17) ↔ OfGood first second TooMany
  pub join-room : (first second out : List ℕ)
      → ((e.join first second out).told ≡ refused 19) ↔ OfGood first second (λ b c. TooShort b c (length out))
  -- else the joined book stands at the front of the buffer, the later bytes are kept, and its length is told
  pub joins : (first second out : List ℕ) (b c : Book) → GoodBook first b → GoodBook second c → Fitting b c (length out)
      → e.join first second out ≡ written b c out (length (joined_bytes b c))
  pub join-keeps : (first second out : List ℕ) → ((n : ℕ) → (e.join first second out).told ≡ success n → ⊥)
      → (e.join first second out).buffer ≡ out
  pub join-means : JoinsOneBook e
  -- the same of the log
  pub log-first : (first second : List ℕ) (limit other : ℕ) (out : List ℕ) (i at : ℕ)
      → ((e.log first second limit other out).told ≡ of_book 1 i at) ↔ DamagedBook first i at
  pub log-second : (first second : List ℕ) (limit other : ℕ) (out : List ℕ) (i at : ℕ)
      → ((e.log first second limit other out).told ≡ of_book 2 i at) ↔ ((b : Book) × GoodBook first b × DamagedBook second i at)
  pub log-many : (first second : List ℕ) (limit other : ℕ) (out : List ℕ)
      → ((e.log first second limit other out).told ≡ refused 17) ↔ OfGood first second TooMany
  pub log-room : (first second : List ℕ) (limit other : ℕ) (out : List ℕ)
      → ((e.log first second limit other out).told ≡ refused 19) ↔ OfGood first second (λ b c. TooShort b c (length out))
  pub logs : TellsWhich e
  pub log-writes : (first second : List ℕ) (limit other : ℕ) (out : List ℕ) (b c : Book) → GoodBook first b → GoodBook second c
      → (v : Entry) → (e.log first second limit other out).told ≡ success v
      → (e.log first second limit other out).buffer ≡ (written b c out v).buffer
  pub log-keeps : LogKeeps e
  pub log-means : (first second : List ℕ) (limit other : ℕ) (out : List ℕ) → Bytes first → Bytes second → (b c : Book)
      → GoodBook first b → GoodBook second c → (v : Entry) → (e.log first second limit other out).told ≡ success v
      → OneBook b c (take (length_in v) (e.log first second limit other out).buffer)
