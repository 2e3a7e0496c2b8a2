-- What the functions of the walk hand one another, so that a call's numbers fit and its rows have room: room for a row at least, no more
-- readings than tries, a row still wanted as long as it goes on, and bytes for every row. A second walk keeps to it too; no entry point speaks of it.
use Rattle.std.specs.Prelude.{◌≡◌, ℕ, ◌+◌, ◌*◌, ◌≤◌, ◌<◌, length}
use Rattle.meaning.specs.Books.{Book}
use Rattle.walk.specs.Run.{State}
use Rattle.walk.specs.declared.tally.Halt.TheVariants.{Going}

pub record Room (b : Book) (pass room : ℕ) (s : State) : Type 0 where
  pub some : 1 ≤ room
  pub counts : s.tally.sets ≤ s.tally.tries
  pub wanting : s.tally.halt ≡ Going → s.tally.sets < pass + room
  pub fits : room * b.atoms ≤ length s.out
