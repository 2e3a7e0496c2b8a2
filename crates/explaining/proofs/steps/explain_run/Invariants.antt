use Prim.Native.Nat.{◌-◌}
use Rattle.meaning.specs.Written.{written, pair}
use Rattle.book.specs.ReadBook.{the_book}
use Rattle.checker.proofs.StepsRun.{Led}
use Rattle.explaining.proofs.steps.explain_run.Given as goal

abbrev pub invariant-loop-r : goal.invariant-loop-r
invariant-loop-r g l =
    Led (the_book l.paper.book) l.paper.trailer.claim l.paper.bytes.now l.paper.trailer.from l.at (pair (written l.initial.colours)) l.i
    (written l.colours)

abbrev pub decreases-loop-r : goal.decreases-loop-r
decreases-loop-r g l = l.paper.trailer.from - l.i
