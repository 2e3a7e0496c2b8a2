-- The no_mo_re engine (document 02, request 6): it meets demands 1 and 2 read over its own walk, and whoever meets them answers as it does. Of
-- a good book that walk's readings are exactly the answer sets, each once, and as many as the fixed walk has.
use mathlib.Core.Path.{◌≡◌}
use mathlib.Core.List.{List}
use Prim.Native.Nat.{ℕ}
use lib.ListN.{length}
use Rattle.meaning.specs.Books.{Book}
use Rattle.book.specs.Rows.{Bytes}
use Rattle.walk.specs.Readings.{readings_in, readings}
use Rattle.walk.specs.Find.{find_by}
use Rattle.nomore.specs.Own.{own_events, SameSets}
use Rattle.nomore.proofs.Sets.{own-sets, own-count}
use Rattle.demands.specs.Damaged.{GoodBook}
use Rattle.demands.specs.FindsBy.{Finder, FindsOwn}
use Rattle.demands.proofs.Calls.{book-fits}
use Rattle.demands.proofs.Found.{finds-by, finds-only}

pub own-find : FindsOwn (find_by own_events)
own-find = finds-by own_events

pub own-only : (book : List ℕ) → Bytes book → (k limit : ℕ) (answer : List ℕ) (find : Finder) → FindsOwn find
    → find book k limit answer ≡ find_by own_events book k limit answer
own-only = finds-only own_events

module _ {book : List ℕ} {b : Book} (g : GoodBook book b) (bytes : Bytes book) where
  pub own-readings : SameSets b (readings_in b (own_events b))
  own-readings = own-sets b (book-fits g bytes).rules

  pub own-as-many : length (readings_in b (own_events b)) ≡ length (readings b)
  own-as-many = own-count b (book-fits g bytes).rules
