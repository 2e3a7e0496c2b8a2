-- `put_outputs` stores line by line.
use native.Mathlib.Nat.{sub-zero}
use native.Mathlib.Omega.{arith}
use Rattle.aspif.proofs.Onward.{onward-start}
use Rattle.aspif.proofs.LinesStored.{outputs-room, outputs-more, outputs-done}
use Rattle.aspif.proofs.lines.put_outputs.Goals as goal

pub loop-n-init : goal.loop-n-init
loop-n-init c = rw sub-zero (onward-start _ _ _ c.requires)

pub put_output-end-requires : goal.put_output-end-requires
put_output-end-requires c =
    (outputs-room _ _ _ _ c.loop-n.n c.loop-n.invariant (omega arith) c.wide.ensures.0, omega (arith, c.wide.ensures.1))

pub loop-n-preserved : goal.loop-n-preserved
loop-n-preserved c =
    outputs-more _ _ _ _ c.loop-n.n c.loop-n.invariant (omega arith) c.wide.ensures.0 c.put_output-end.ensures

pub shape_of-out : goal.shape_of-out
shape_of-out c = c.loop-n.invariant.long

pub returns : goal.returns
returns c = outputs-done _ _ _ _ c.loop-n.n c.loop-n.invariant (omega arith)
