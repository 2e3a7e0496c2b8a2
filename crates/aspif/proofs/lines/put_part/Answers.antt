-- `put_part` stores literal by literal.
use native.Mathlib.Omega.{arith}
use borrow.Author.Rules.{rules}
use Rattle.aspif.proofs.Onward.{onward-start}
use Rattle.aspif.proofs.LinesStored.{part_room, part-more, part-done}
use Rattle.aspif.proofs.lines.put_part.Goals as goal

pub loop-n-init : goal.loop-n-init
loop-n-init c = onward-start _ _ _ (search rules)

pub put_item-end-requires : goal.put_item-end-requires
put_item-end-requires c = part_room _ _ _ _ _ c.loop-n.n-index c.loop-n.invariant (omega arith) c.wide.ensures.0

pub loop-n-preserved : goal.loop-n-preserved
loop-n-preserved c =
    part-more _ _ _ _ _ c.loop-n.n-index c.loop-n.invariant (omega arith) c.wide.ensures.0 c.put_item-end.ensures

pub shape_of-out : goal.shape_of-out
shape_of-out c = c.loop-n.invariant.long

pub returns : goal.returns
returns c = part-done _ _ _ _ _ c.loop-n.n-index c.loop-n.invariant (omega arith)
