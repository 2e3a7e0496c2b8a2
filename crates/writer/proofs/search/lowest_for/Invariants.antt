use Rattle.meaning.specs.Colours.{side_of}
use Rattle.meaning.specs.Bits.{listed}
use Rattle.book.specs.ReadBook.{the_book}
use Rattle.writer.specs.Steps.{new_by}
use Rattle.writer.proofs.Searches.{NoneBelow}
use Rattle.writer.proofs.search.lowest_for.Given as goal

abbrev pub invariant-loop-r : goal.invariant-loop-r
invariant-loop-r l = NoneBelow (new_by (side_of l.side) (the_book l.book) l.headed l.lost (listed l.set.w)) l.r
