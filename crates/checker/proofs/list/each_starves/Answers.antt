-- The first rules of the list have a positive atom all of whose rules are in the set, until one has none.
use native.Mathlib.Omega.{arith}
use borrow.Author.Rules.{rules}
use mathlib.Core.Path.{sym, ◌∙◌}
use Rattle.meaning.specs.Sets.{every}
use Rattle.checker.proofs.Conditions.{starved-stops, starved-next, starved-end}
use Rattle.checker.proofs.list.each_starves.Goals as goal

pub loop-n-init : goal.loop-n-init
unfolding every
loop-n-init c = search rules

pub returns-then-not-is_starved : goal.returns-then-not-is_starved
returns-then-not-is_starved c =
    sym (starved-stops _ _ c.args.list.now c.loop-n.n-index (omega arith) (sym c.is_starved.ensures ∙ c.if-not-is_starved.true))

pub loop-n-preserved : goal.loop-n-preserved
loop-n-preserved c =
    starved-next _ _ c.args.list.now c.loop-n.n-index (omega arith) (sym c.is_starved.ensures ∙ c.if-not-is_starved.false) c.loop-n.invariant

pub returns : goal.returns
returns c = sym (starved-end _ _ c.args.list.now c.loop-n.n-index (omega arith) c.loop-n.invariant)
