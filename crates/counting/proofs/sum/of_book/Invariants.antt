use Rattle.std.proofs.Common.{◌≡◌}
use Rattle.counting.specs.Totals.{totals_from}
use Rattle.counting.proofs.sum.of_book.Given as goal

abbrev pub invariant-loop-count : goal.invariant-loop-count
invariant-loop-count l = l.found ≡ totals_from l.count-index l.sets l.counts
