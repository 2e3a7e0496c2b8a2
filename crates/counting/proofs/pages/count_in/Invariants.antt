use Rattle.std.proofs.Common.{◌≡◌, ◌-◌, length, take}
use Rattle.book.specs.ReadBook.{the_book}
use Rattle.counting.specs.SoFar.{SoFar}
use Rattle.counting.proofs.pages.count_in.Given as goal

abbrev pub invariant-loop-made : goal.invariant-loop-made
invariant-loop-made l =
    SoFar (the_book l.book) l.limit l.sets l.tries (take l.book.shape.atoms l.last) l.tallies × (length l.last ≡ 255) × (l.counts ≡ l.initial.counts)

abbrev pub decreases-loop-made : goal.decreases-loop-made
decreases-loop-made l = l.limit - l.tries
