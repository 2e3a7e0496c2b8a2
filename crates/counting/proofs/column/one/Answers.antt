-- 1 where the byte is 1.
use Rattle.std.proofs.Common.{◌∙◌}
use Rattle.counting.proofs.Columns.{one-byte}
use Rattle.counting.proofs.column.one.Goals as goal

pub returns : goal.returns
returns c = c.from.ensures ∙ one-byte _
