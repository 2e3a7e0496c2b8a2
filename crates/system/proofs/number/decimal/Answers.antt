use Rattle.std.proofs.Common.{arith}
use Rattle.system.proofs.Counting.{prefix_len_of_le}
use Rattle.system.proofs.number.decimal.Goals as goal

pub returns-clause-in_bounds : goal.returns-clause-in_bounds
returns-clause-in_bounds c = prefix_len_of_le _ _ (omega arith)
