use lib.ListN.{length}
use Rattle.meaning.specs.Lowest.{rules_in}
use Rattle.meaning.specs.Bits.{listed}
use Rattle.meaning.specs.Written.{of}
use Rattle.meaning.specs.Suspects.{live}
use Rattle.book.specs.Format.{book_in}
use Rattle.closing.proofs.Clearing.{Clearing}
use Rattle.closing.proofs.cleared.clear.Given as goal

abbrev pub invariant-loop-cand : goal.invariant-loop-cand
invariant-loop-cand l =
    Clearing (book_in l.rowed.book.bytes.now) (of (listed l.suspects.w)) (of (listed l.initial.held.w)) (of (listed l.held.w)) (of (listed l.cand.w))

abbrev pub decreases-loop-cand : goal.decreases-loop-cand
decreases-loop-cand l = length (rules_in (book_in l.rowed.book.bytes.now) (live (of (listed l.held.w))))
