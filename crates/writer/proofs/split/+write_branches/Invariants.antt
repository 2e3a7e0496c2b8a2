use Rattle.meaning.specs.Written.{written, pair}
use Rattle.book.specs.ReadBook.{the_book}
use Rattle.writer.proofs.Branches.{left}
use Rattle.writer.proofs.split.+write_branches.Given as goal

abbrev pub decreases-write_branches : goal.decreases-write_branches
decreases-write_branches l = left (the_book l.book.now) (pair (written l.c))
