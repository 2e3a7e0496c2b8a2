-- The first numbers are below R, and whether the list ascends is what the rest says from `least` on.
use native.Mathlib.Omega.{arith}
use borrow.Author.Rules.{rules}
use mathlib.Core.Path.{sym, ◌∙◌}
use Rattle.meaning.specs.Sets.{every}
use Rattle.checker.proofs.Lists.{rising-all, rising-next, proper-out, proper-stops, proper-next, proper-end}
use Rattle.checker.proofs.list.is_proper.Goals as goal
use Rattle.checker.proofs.list.is_proper.Goals.{then-rules-n-via-then-rules-n, then-rules-n-via-else-rules-n+then-n-least}

pub loop-n-init : goal.loop-n-init
unfolding every
loop-n-init c = let e = rising-all c.args.list.now in search rules

pub returns-then-rules-n : goal.returns-then-rules-n
returns-then-rules-n c =
    let i = c.loop-n.n-index in
    sym (elim c.then-rules-n.branch [
      | then-rules-n-via-then-rules-n w ↦ proper-out c.args.list.now i _ (omega arith) (omega arith)
      | then-rules-n-via-else-rules-n+then-n-least w ↦ proper-stops c.args.list.now _ i _ c.loop-n.invariant.1 (omega arith) (omega arith)
    ])

pub loop-n-preserved : goal.loop-n-preserved
loop-n-preserved c =
    let i = c.loop-n.n-index in (
      proper-next c.args.list.now i _ (omega arith) (omega arith) c.loop-n.invariant.0,
      c.loop-n.invariant.1 ∙ rising-next c.args.list.now _ i (omega arith) (omega arith),
    )

pub returns : goal.returns
returns c = sym (proper-end c.args.list.now _ c.loop-n.n-index _ c.loop-n.invariant.1 (omega arith) c.loop-n.invariant.0)
