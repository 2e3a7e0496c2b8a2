-- `put_rows` puts one row after the other.
use mathlib.Core.Path.{refl}
use native.Mathlib.Omega.{arith}
use Rattle.calling.specs.Rows.{rows_of}
use Rattle.calling.proofs.Rows.{rows-turn, rows-done}
use Rattle.calling.proofs.names.put_rows.Goals as goal

pub loop-a-init : goal.loop-a-init
unfolding rows_of
loop-a-init c = refl

pub loop-a-preserved : goal.loop-a-preserved
loop-a-preserved c = rows-turn _ _ _ _ _ c.loop-a.invariant c.put_part.ensures

pub returns : goal.returns
returns c = rows-done _ _ _ _ c.loop-a.invariant (omega arith)
