use Prim.Native.Nat.{◌-◌}
use Rattle.meaning.specs.Written.{written, pair}
use Rattle.book.specs.ReadBook.{the_book}
use Rattle.checker.proofs.StepsRun.{Led}
use Rattle.checker.proofs.run.run_steps.Given as goal

abbrev pub invariant-loop-r : goal.invariant-loop-r
invariant-loop-r l =
    Led (the_book l.book) l.trailer.claim l.paper l.trailer.from l.at (pair (written l.initial.colours)) l.i (written l.colours)

abbrev pub decreases-loop-r : goal.decreases-loop-r
decreases-loop-r l = l.trailer.from - l.i
