use Rattle.meaning.specs.Written.{written}
use Rattle.book.specs.ReadBook.{the_book}
use Rattle.closing.specs.Left.{left}
use Rattle.closing.specs.Taken.{taken, Takes}
use Rattle.walk.specs.Page.{set_in}
use Rattle.walk.proofs.Descending.{Descends}
use Rattle.walk.proofs.descent.descend.Given as goal

abbrev pub invariant-loop-d : goal.invariant-loop-d
invariant-loop-d l =
    Descends (the_book l.rowed.book) (set_in l.row) (taken l.choice (written l.c)) × Takes (the_book l.rowed.book) (written l.c) l.choice

abbrev pub decreases-loop-d : goal.decreases-loop-d
decreases-loop-d l = left (the_book l.rowed.book) (taken l.choice (written l.c))
