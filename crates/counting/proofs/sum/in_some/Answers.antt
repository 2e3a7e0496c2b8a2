-- 1 where both tests of the second total hold.
use Rattle.std.proofs.Common.{◌∙◌}
use Rattle.counting.proofs.Columns.{one-byte}
use Rattle.counting.proofs.Summing.{some-above, some-none}
use Rattle.counting.proofs.sum.in_some.Goals as goal
use Rattle.counting.proofs.sum.in_some.Goals.{then-count-gt0, else-count-gt0}

pub returns : goal.returns
returns c =
    c.from.ensures ∙ one-byte _
    ∙ elim c.if-count-gt0.branch [ then-count-gt0 w ↦ some-above _ _ w.from-is w.if-count-gt0.true | else-count-gt0 w ↦ some-none _ _ w.from-is w.if-count-gt0.false ]
