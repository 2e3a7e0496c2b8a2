-- 1 where the first test holds.
use Rattle.std.proofs.Common.{◌∙◌}
use Rattle.counting.proofs.Columns.{one-byte}
use Rattle.counting.proofs.sum.in_each.Goals as goal

pub returns : goal.returns
returns c = c.from.ensures ∙ one-byte _
