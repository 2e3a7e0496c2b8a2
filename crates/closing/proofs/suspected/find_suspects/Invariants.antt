use lib.ListN.{length}
use Rattle.meaning.specs.Lowest.{rules_in}
use Rattle.meaning.specs.Bits.{listed}
use Rattle.meaning.specs.Written.{of}
use Rattle.meaning.specs.Suspects.{live}
use Rattle.meaning.proofs.Suspecting.{Suspecting}
use Rattle.book.specs.Format.{book_in}
use Rattle.closing.specs.News.{atom_set}
use Rattle.closing.specs.Clearing.{Inside}
use Rattle.closing.proofs.suspected.find_suspects.Given as goal

abbrev pub invariant-loop-todo : goal.invariant-loop-todo
invariant-loop-todo l =
    Suspecting (book_in l.rowed.book.bytes.now) (of (listed l.old.w)) (of (listed l.off.w)) (of (listed l.suspects.w)) (atom_set l.todo.w) × Inside (book_in l.rowed.book.bytes.now) (of (listed l.suspects.w))

abbrev pub decreases-loop-todo : goal.decreases-loop-todo
decreases-loop-todo l = length (rules_in (book_in l.rowed.book.bytes.now) (live (of (listed l.suspects.w))))
