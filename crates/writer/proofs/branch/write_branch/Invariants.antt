use Rattle.meaning.specs.Bits.{listed}
use Rattle.meaning.specs.Written.{lent}
use Rattle.book.specs.ReadBook.{the_book}
use Rattle.writer.proofs.Branches.{missing}
use Rattle.writer.proofs.Ahead.{Ahead}
use Rattle.writer.proofs.branch.write_branch.Given as goal

abbrev pub invariant-loop-r : goal.invariant-loop-r
invariant-loop-r l =
    Ahead (the_book l.book) l.claim (lent (listed l.initial.colours.on.w) (listed l.initial.colours.off.w)) l.initial.n l.initial.draft (listed l.colours.on.w) (listed l.colours.off.w) l.n l.draft

abbrev pub decreases-loop-r : goal.decreases-loop-r
decreases-loop-r l = missing (the_book l.book) (lent (listed l.colours.on.w) (listed l.colours.off.w))
