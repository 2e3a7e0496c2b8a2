use Rattle.meaning.specs.AnswerSet.{generating}
use Rattle.meaning.specs.Bits.{listed}
use Rattle.book.specs.ReadBook.{the_book}
use Rattle.walk.specs.Page.{set_in}
use Rattle.writer.proofs.Witnessing.{Listing}
use Rattle.writer.proofs.witness.write_witness.Given as goal

abbrev pub invariant-loop-count : goal.invariant-loop-count
invariant-loop-count l =
    Listing (the_book l.book) (generating (the_book l.book) (set_in l.row)) l.initial.n l.initial.draft l.count (listed l.taken.w) l.n l.draft
