-- A step due at the witness start or past it, 45, and the two other kinds of step as their functions find them.
use native.Mathlib.Omega.{arith}
use mathlib.Core.Path.{sym, ◌∙◌}
use Rattle.meaning.specs.Bits.{listed}
use Rattle.checker.proofs.StepChecked.{step-late, end-holds, end-fails}
use Rattle.checker.proofs.step.check_step.Goals as goal

pub returns-then-trailer-at : goal.returns-then-trailer-at
returns-then-trailer-at c = step-late _ _ _ _ _ _ (omega arith)

pub returns-in-85 : goal.returns-in-85
returns-in-85 c = c.check_list_step.ensures (listed c.args.on.now.w)

pub returns-in-69 : goal.returns-in-69
returns-in-69 c = end-holds _ _ _ _ _ _ (omega arith) (omega arith) (sym c.is_ended.ensures ∙ c.if-is_ended.true)

pub returns-in-69-2 : goal.returns-in-69-2
returns-in-69-2 c = end-fails _ _ _ _ _ _ (omega arith) (omega arith) (sym c.is_ended.ensures ∙ c.if-is_ended.false)
