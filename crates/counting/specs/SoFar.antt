-- What the functions of the count hand one another, page by page. No promise of another crate speaks of it.
--
--   sets_in n m page      the sets that the first m rows of n bytes stand for
--   summed n counts l    the counts, to which it is added for each of the first n atoms how many sets of the list hold it
--   SoFar b limit sets tries last counts   a count that has come so far: so many tries and sets, the row to go on behind, and in how many
--                        of the sets each atom stands
--   AllCounted b limit sets counts         a count that is at its end
--   Comes b limit tries p last counts      what an answer for a page says, where so many tries were made before
use Rattle.std.specs.Prelude.{◌≡◌, ℕ, ◌+◌, ◌<◌, ◌≤◌, List, ◌++◌, map, length, take, drop, slice_index}
use Rattle.meaning.specs.Books.{Atoms, atom_no, Book}
use Rattle.meaning.specs.Written.{nothing}
use Rattle.walk.specs.Events.{events}
use Rattle.walk.specs.Readings.{readings_in, readings}
use Rattle.walk.specs.Page.{set_in, events_from}
use Rattle.walk.specs.Listing.{rows_in}
use Rattle.counting.specs.Counts.{standing, numbers_from, standings}
use Rattle.counting.specs.declared.pages.Paged.{Paged}
use Rattle.counting.specs.declared.pages.Paged.TheVariants.{More, All, Limited}

unfoldable pub sets_in : ℕ → ℕ → List ℕ → List Atoms
sets_in n m page = map set_in (rows_in n m page)

abbrev pub summed : ℕ → List ℕ → List Atoms → List ℕ
summed n counts l = numbers_from 0 n (λ i. slice_index counts i + standing (atom_no i) l) ++ drop n counts

-- the readings of the first tries
abbrev pub readings_up_to : Book → ℕ → List Atoms
readings_up_to b tries = readings_in b (take tries (events b nothing))

pub record SoFar (b : Book) (limit sets tries : ℕ) (last counts : List ℕ) : Type 0 where
  pub within : tries ≤ limit
  pub made : tries ≤ length (events b nothing)
  pub next : drop tries (events b nothing) ≡ events_from b tries (set_in last)
  pub number : sets ≡ length (readings_up_to b tries)
  pub each : take b.atoms counts ≡ standings b.atoms (readings_up_to b tries)
  pub last-long : length last ≡ b.atoms
  pub counts-long : length counts ≡ 255

pub record AllCounted (b : Book) (limit sets : ℕ) (counts : List ℕ) : Type 0 where
  pub within : length (events b nothing) ≤ limit
  pub number : sets ≡ length (readings b)
  pub each : take b.atoms counts ≡ standings b.atoms (readings b)
  pub counts-long : length counts ≡ 255

abbrev pub Comes : Book → ℕ → ℕ → Paged → List ℕ → List ℕ → Type 0
Comes b limit before (More tries sets) last counts = SoFar b limit sets tries last counts × (before < tries)
Comes b limit before (All sets) last counts = AllCounted b limit sets counts
Comes b limit before Limited last counts = limit < length (events b nothing)
