-- A book without answer sets leaves the totals as they were; any other adds its own.
use Rattle.counting.proofs.Summing.{turn-without, turn-with}
use Rattle.counting.proofs.turn.turn_counted.Goals as goal

pub returns-then-sets-eq0 : goal.returns-then-sets-eq0
returns-then-sets-eq0 c = turn-without _ _ _ _ c.if-sets-eq0.true

pub returns : goal.returns
returns c = turn-with _ _ _ _ c.if-sets-eq0.false c.with.ensures
