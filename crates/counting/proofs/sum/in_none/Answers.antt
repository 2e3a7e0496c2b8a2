-- 1 where the third test holds.
use Rattle.std.proofs.Common.{◌∙◌}
use Rattle.counting.proofs.Columns.{one-byte}
use Rattle.counting.proofs.sum.in_none.Goals as goal

pub returns : goal.returns
returns c = c.from.ensures ∙ one-byte _
