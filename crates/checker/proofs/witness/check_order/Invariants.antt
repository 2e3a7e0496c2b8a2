use Rattle.meaning.specs.Bits.{listed}
use Rattle.book.specs.ReadBook.{the_book}
use Rattle.checker.proofs.WitnessChecked.{Ordered}
use Rattle.checker.proofs.witness.check_order.Given as goal

abbrev pub invariant-loop-i : goal.invariant-loop-i
invariant-loop-i l = Ordered (the_book l.book) l.from l.list l.i (listed l.before.w) l.headed
