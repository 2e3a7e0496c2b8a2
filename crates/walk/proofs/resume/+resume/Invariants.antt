use Rattle.meaning.specs.Written.{written}
use Rattle.book.specs.ReadBook.{the_book}
use Rattle.closing.specs.Left.{left}
use Rattle.closing.specs.Taken.{taken}
use Rattle.walk.proofs.resume.+resume.Given as goal

abbrev pub decreases-resume : goal.decreases-resume
decreases-resume l = left (the_book l.rowed.now.book) (taken l.choice (written l.c))
