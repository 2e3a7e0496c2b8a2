use Rattle.meaning.specs.Bits.{listed}
use Rattle.meaning.specs.Written.{coloured}
use Rattle.book.specs.Format.{book_in}
use Rattle.closing.specs.Left.{left}
use Rattle.closing.specs.Taken.{puts}
use Rattle.nomore.proofs.own.+own.Given as goal

abbrev pub decreases-own : goal.decreases-own
decreases-own l = left (book_in l.rowed.now.book.bytes.now) (puts l.choice (coloured (listed l.on.w) (listed l.off.w)))
