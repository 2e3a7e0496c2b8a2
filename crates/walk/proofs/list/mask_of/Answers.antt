-- The set holds the numbers of the list so far.
use native.Mathlib.Omega.{arith}
use Rattle.meaning.proofs.Four.{members-nothing}
use Rattle.walk.proofs.GoodLists.{mask_start, mask_next, mask_end}
use Rattle.walk.proofs.list.mask_of.Goals as goal

pub loop-a-init : goal.loop-a-init
loop-a-init c = mask_start c.args.list.now _ members-nothing

pub loop-a-preserved : goal.loop-a-preserved
loop-a-preserved c = mask_next c.args.list.now _ _ c.loop-a.a-index (omega arith) (omega arith) c.loop-a.invariant c.put.ensures

pub returns : goal.returns
returns c = mask_end c.args.list.now _ c.loop-a.a-index (omega arith) c.loop-a.invariant
