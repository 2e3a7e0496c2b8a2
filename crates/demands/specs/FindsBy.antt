-- Demands 1 and 2 of one who finds readings along a walk, whichever walk that is. Demand 2: "A call whose book, numbers and room are good
-- stops at the tries limit exactly when the fixed walk needs more tries; otherwise it says there are fewer than asked exactly when there are
-- fewer." Document 02, request 6, reads these sentences over the no_mo_re walk: "in its own walk's order, over which k and L are read.
-- Refusals: as for finding." That walk's readings are exactly the answer sets, each once (nomore/proofs/Sets, own-sets).
--
--   Finder               an engine's answers to calls for a reading, and its buffer afterwards
--   FindsBy walk find    it answers every call as the walk says: the walk tells which events a book has
--   own_events            (of nomore) the events of the no_mo_re walk
use Rattle.std.specs.Prelude.{◌≡◌, List, ◌++◌, ◌↔◌, ℕ, ◌-◌, ◌≤◌, ◌<◌, length, get_or, drop}
use Rattle.meaning.specs.Books.{Atoms, Book}
use Rattle.meaning.specs.Told.{refused_at, refused, fewer, stopped, Answered}
use Rattle.walk.specs.Events.{Event}
use Rattle.walk.specs.Readings.{readings_in}
use Rattle.walk.specs.Tries.{Needs, last_clash}
use Rattle.walk.specs.Run.{row_of}
use Rattle.walk.specs.Find.{set}
use Rattle.nomore.specs.Own.{own_events}
use Rattle.demands.specs.Damaged.{GoodBook, DamagedBook}
use Rattle.demands.specs.Demand2.{Call}

abbrev pub Finder : Type 0
Finder = List ℕ → ℕ → ℕ → List ℕ → Answered ℕ

pub record FindsBy (walk : Book → List Event) (find : Finder) : Type 0 where
  -- a damaged book, k is 0, a buffer too short; and whatever is told but a reading, every lent byte is as it was
  pub tells-book : (book : List ℕ) (k limit : ℕ) (answer : List ℕ) (i at : ℕ)
      → ((find book k limit answer).told ≡ refused_at i at) ↔ DamagedBook book i at
  pub tells-number : (book : List ℕ) (k limit : ℕ) (answer : List ℕ)
      → ((find book k limit answer).told ≡ refused 15) ↔ ((b : Book) × GoodBook book b × (k ≡ 0))
  pub tells-room : (book : List ℕ) (k limit : ℕ) (answer : List ℕ)
      → ((find book k limit answer).told ≡ refused 8) ↔ ((b : Book) × GoodBook book b × (0 < k) × (length answer < b.atoms))
  pub keeps : (book : List ℕ) (k limit : ℕ) (answer : List ℕ)
      → ((t : ℕ) → (find book k limit answer).told ≡ set t → ⊥) → (find book k limit answer).buffer ≡ answer
  -- the k-th reading of the walk stands in the buffer, the later bytes are kept, and the tries are the walk's
  pub gives : (book : List ℕ) (b : Book) (k limit : ℕ) (answer : List ℕ) → Call book b k answer
      → (n : ℕ) → Needs b (walk b) k n → n ≤ limit → k ≤ length (readings_in b (walk b))
      → ((find book k limit answer).told ≡ set n)
      × ((x : Atoms) → (find book k limit answer).buffer ≡ row_of b (get_or (readings_in b (walk b)) (k - 1) x) ++ drop b.atoms answer)
  pub stops : (book : List ℕ) (b : Book) (k limit : ℕ) (answer : List ℕ) → Call book b k answer
      → ((find book k limit answer).told ≡ stopped limit) ↔ ((n : ℕ) × Needs b (walk b) k n × (limit < n))
  pub tells-fewer : (book : List ℕ) (b : Book) (k limit : ℕ) (answer : List ℕ) → Call book b k answer
      → (n : ℕ) → Needs b (walk b) k n → n ≤ limit
      → ((find book k limit answer).told ≡ fewer n (length (readings_in b (walk b))) (last_clash (walk b)))
      ↔ (length (readings_in b (walk b)) < k)

-- request 6: what is demanded of the engine that goes the no_mo_re way
abbrev pub FindsOwn : Finder → Type 0
FindsOwn = FindsBy own_events
