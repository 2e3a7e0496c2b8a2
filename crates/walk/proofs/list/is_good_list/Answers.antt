-- The numbers so far are below the number of atoms, and whether the list ascends is what the rest says from `least` on.
use mathlib.Core.Path.{◌∙◌}
use native.Mathlib.Omega.{arith}
use borrow.Author.Rules.{rules}
use Rattle.meaning.specs.Sets.{every}
use Rattle.walk.proofs.GoodLists.{rising-all, rising-next, list-out, list-stops, list-next, list-end}
use Rattle.walk.proofs.list.is_good_list.Goals as goal

pub loop-n-init : goal.loop-n-init
unfolding every
loop-n-init c = let e = rising-all c.args.list.now in search rules

pub returns-then-atoms-n : goal.returns-then-atoms-n
returns-then-atoms-n c = list-out c.args.list.now c.loop-n.n-index _ (omega arith) (omega arith)

pub returns-then-n-least : goal.returns-then-n-least
returns-then-n-least c =
    list-stops c.args.list.now _ c.loop-n.n-index _ c.loop-n.invariant.1 (omega arith) (omega arith)

pub loop-n-preserved : goal.loop-n-preserved
loop-n-preserved c = (
  list-next c.args.list.now c.loop-n.n-index _ (omega arith) (omega arith) c.loop-n.invariant.0,
  c.loop-n.invariant.1 ∙ rising-next c.args.list.now _ c.loop-n.n-index (omega arith) (omega arith),
)

pub returns : goal.returns
returns c =
    list-end c.args.list.now _ c.loop-n.n-index _ c.loop-n.invariant.1 (omega arith) c.loop-n.invariant.0
