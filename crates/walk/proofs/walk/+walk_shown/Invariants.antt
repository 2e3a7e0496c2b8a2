use Rattle.meaning.specs.Written.{written}
use Rattle.book.specs.ReadBook.{the_book}
use Rattle.closing.specs.Left.{left}
use Rattle.closing.specs.Taken.{taken}
use Rattle.walk.proofs.walk.+walk_shown.Given as goal

abbrev pub decreases-walk_shown : goal.decreases-walk_shown
decreases-walk_shown l = left (the_book l.rowed.now.book) (taken l.choice (written l.c))
