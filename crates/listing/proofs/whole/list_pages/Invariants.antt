use Rattle.std.proofs.Common.{◌≡◌, ◌-◌, ◌≤◌, length}
use Rattle.book.specs.Format.{book_in}
use Rattle.listing.proofs.Pages.{SoFar}
use Rattle.listing.proofs.whole.list_pages.Given as goal

abbrev pub invariant-loop-sets : goal.invariant-loop-sets
invariant-loop-sets g l =
    (l.atoms ≤ 255) × (l.atoms ≡ (book_in l.book).atoms) × (length l.rows ≡ 65280) × (length l.last ≡ 255)
    × SoFar l.book 1000000 l.initial.last l.before l.tries l.last

abbrev pub decreases-loop-sets : goal.decreases-loop-sets
decreases-loop-sets g l = 1000000 - l.tries
