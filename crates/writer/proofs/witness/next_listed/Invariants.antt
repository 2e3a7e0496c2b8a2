use Rattle.meaning.specs.AnswerSet.{generating}
use Rattle.meaning.specs.Bits.{listed}
use Rattle.book.specs.ReadBook.{the_book}
use Rattle.walk.specs.Page.{set_in}
use Rattle.writer.specs.Steps.{may_list}
use Rattle.writer.proofs.Searches.{NoneBelow}
use Rattle.writer.proofs.witness.next_listed.Given as goal

abbrev pub invariant-loop-r : goal.invariant-loop-r
invariant-loop-r l =
    NoneBelow (may_list (the_book l.book) (generating (the_book l.book) (set_in l.row)) (listed l.taken.w)) l.r
