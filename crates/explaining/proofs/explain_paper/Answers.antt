-- `explain_paper` tells of steps only behind a trailer that fits.
use Rattle.book.specs.Format.{book_in}
use Rattle.book.proofs.Places.{shape-atoms}
use Rattle.checker.proofs.PaperChecked.{ends-fit}
use Rattle.explaining.proofs.explain_paper.Goals as goal

pub invariant_of-paper : goal.invariant_of-paper
invariant_of-paper g c =
    let ends = c.read_trailer.ensures (book_in c.args.book.bytes.now) (shape-atoms _ _ c.args.book.read_as) in
    record { fits = ends-fit ends c.in-Ok.is }
