use Rattle.meaning.specs.Written.{written}
use Rattle.book.specs.ReadBook.{the_book}
use Rattle.closing.specs.Left.{left}
use Rattle.closing.specs.Taken.{taken}
use Rattle.walk.proofs.search.+first_alike.Given as goal

abbrev pub decreases-first_alike : goal.decreases-first_alike
decreases-first_alike l = left (the_book l.rowed.now.book) (taken l.choice (written l.c))
