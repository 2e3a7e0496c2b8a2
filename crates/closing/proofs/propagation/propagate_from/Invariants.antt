use Rattle.meaning.specs.Bits.{listed}
use Rattle.meaning.specs.Written.{of, lent}
use Rattle.meaning.proofs.Remaining.{remaining}
use Rattle.book.specs.Format.{book_in}
use Rattle.closing.specs.News.{atom_set}
use Rattle.closing.proofs.Propagating.{Propagating}
use Rattle.closing.proofs.propagation.propagate_from.Given as goal

abbrev pub invariant-loop-off : goal.invariant-loop-off
invariant-loop-off l =
    Propagating (book_in l.rowed.book.bytes.now) (lent (listed l.initial.on.w) (listed l.initial.off.w)) (lent (listed l.on.w) (listed l.off.w)) (atom_set l.nt.w) (atom_set l.nl.w) (of (listed l.cand.w))

abbrev pub decreases-loop-off : goal.decreases-loop-off
decreases-loop-off l = remaining (book_in l.rowed.book.bytes.now) (lent (listed l.on.w) (listed l.off.w))
