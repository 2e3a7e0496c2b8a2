-- The tries that a call needs, told from the events of a walk alone; those of the fixed walk are `events b nothing`. Document 01: "Its walk
-- ends at that answer set, or at the last try." Demand 2: "stops at the tries limit exactly when the fixed walk needs more tries".
--
--   Kth b es k t x   the k-th reading of the events is x, and is met at try t
--   Needs b es k n   a call for the k-th reading needs n tries: up to that reading, or all events where there are fewer
--   last_clash es     document 02: "the rule for the last contradictory try, or 255 if the walk had none": its number
use Rattle.std.specs.Prelude.{◌≡◌, List, [], ◌∷◌, ◌++◌, ℕ, ◌+◌, ◌<◌, length}
use Rattle.meaning.specs.Written.{Tables}
use Rattle.meaning.specs.Books.{Atoms, Book}
use Rattle.walk.specs.Events.{Event, clash, fork, reading, quiet}
use Rattle.walk.specs.Readings.{reading_of, readings_in}

pub record Kth (b : Book) (es : List Event) (k t : ℕ) (x : Atoms) : Type 0 where
  pub earlier : List Event
  pub found : Tables
  pub later : List Event
  pub walk : es ≡ earlier ++ (reading found ∷ later)
  pub try : t ≡ length earlier + 1
  pub number : k ≡ length (readings_in b earlier) + 1
  pub set : x ≡ reading_of b found

pub data Needs (b : Book) (es : List Event) (k : ℕ) : ℕ → Type 0 where
  to-reading : {t : ℕ} {x : Atoms} → Kth b es k t x → Needs b es k t
  to_end : length (readings_in b es) < k → Needs b es k (length es)

-- behind some more events, where `last` was the last before
unfoldable pub clash_in : ℕ → List Event → ℕ
clash_in last [] = last
clash_in last (clash r ∷ es) = clash_in r.0 es
clash_in last (fork r ∷ es) = clash_in last es
clash_in last (reading d ∷ es) = clash_in last es
clash_in last (quiet ∷ es) = clash_in last es

abbrev pub last_clash : List Event → ℕ
last_clash es = clash_in 255 es
