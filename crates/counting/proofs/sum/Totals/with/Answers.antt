-- The book's own totals are added, each to its own.
use Rattle.counting.specs.Totals.{totals_with}
use Rattle.counting.proofs.sum.Totals.with.Goals as goal

pub returns : goal.returns
unfolding totals_with
returns c = rw c.of_book-more.ensures
