use Rattle.meaning.specs.Colours.{Under}
use Rattle.meaning.specs.Bits.{listed}
use Rattle.meaning.specs.Written.{of, lent}
use Rattle.meaning.specs.Propagation.{Propagated}
use Rattle.meaning.specs.Suspects.{Settled}
use Rattle.meaning.proofs.Remaining.{remaining}
use Rattle.book.specs.Format.{book_in}
use Rattle.closing.proofs.Closed.{UnderWay}
use Rattle.closing.proofs.close_propagated.Given as goal

abbrev pub invariant-loop-old : goal.invariant-loop-old
invariant-loop-old l =
    UnderWay (book_in l.rowed.book.bytes.now) (lent (listed l.initial.on.w) (listed l.initial.off.w)) (lent (listed l.on.w) (listed l.off.w))
    × Propagated (book_in l.rowed.book.bytes.now) (lent (listed l.on.w) (listed l.off.w))
    × Settled (book_in l.rowed.book.bytes.now) (of (listed l.old.w))
    × Under (book_in l.rowed.book.bytes.now) (of (listed l.old.w)) (of (listed l.off.w))

abbrev pub decreases-loop-old : goal.decreases-loop-old
decreases-loop-old l = remaining (book_in l.rowed.book.bytes.now) (lent (listed l.on.w) (listed l.off.w))
