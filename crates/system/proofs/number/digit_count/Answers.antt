use Rattle.system.proofs.Powers.{digits-by-log}
use Rattle.system.proofs.number.digit_count.Goals as goal

pub returns-clause-fewest : goal.returns-clause-fewest
returns-clause-fewest c = digits-by-log _ _ _ c.max.ensures c.ilog10.ensures.power_le c.ilog10.ensures.next_power_gt
