-- What the whole list comes to is what the rest from byte i on comes to.
use native.Mathlib.Omega.{arith}
use mathlib.Core.Path.{sym, ◌∙◌}
use Rattle.checker.proofs.WitnessChecked.{blocked-end, blocked-stops, blocked-next}
use Rattle.checker.proofs.witness.check_unblocked.Goals as goal

pub returns-then-is_blocked : goal.returns-then-is_blocked
returns-then-is_blocked c =
    sym (c.loop-i.invariant ∙ blocked-stops _ c.args.list.now c.args.from c.loop-i.i _ (omega arith)
    (sym c.is_blocked.ensures ∙ c.if-is_blocked.true))

pub loop-i-preserved : goal.loop-i-preserved
loop-i-preserved c =
    c.loop-i.invariant ∙ blocked-next _ c.args.list.now c.args.from c.loop-i.i _ (omega arith)
    (sym c.is_blocked.ensures ∙ c.if-is_blocked.false)

pub returns : goal.returns
returns c = sym (c.loop-i.invariant ∙ blocked-end _ c.args.list.now c.args.from c.loop-i.i _ (omega arith))
