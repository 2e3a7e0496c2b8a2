-- The check of a part: what is asked of the whole part is what is asked of the bytes that are left, turn by turn.
use mathlib.Core.Path.{sym, ◌∙◌}
use native.Mathlib.Nat.{add_assoc}
use native.Mathlib.Omega.{arith}
use Rattle.meaning.proofs.Choice.{lt_yes, lt_no}
use Rattle.book.proofs.Turns.{part_end, part-turn}
use Rattle.book.proofs.part.check_part.Goals as goal

pub returns-then-atoms-x : goal.returns-then-atoms-x
returns-then-atoms-x c =
    sym (c.loop-i.invariant ∙ part-turn c.args.s.now c.loop-i.i _ _ _ (omega arith) ∙ lt_no _ _ _ _ (omega arith))

pub returns-then-x-least : goal.returns-then-x-least
returns-then-x-least c =
    sym
    (c.loop-i.invariant ∙ part-turn c.args.s.now c.loop-i.i _ _ _ (omega arith)
    ∙ lt_yes _ _ _ _ (omega arith) ∙ lt_yes _ _ _ _ (omega arith))

pub loop-i-preserved : goal.loop-i-preserved
loop-i-preserved c =
    rw (← add_assoc)
    (c.loop-i.invariant ∙ part-turn c.args.s.now c.loop-i.i _ _ _ (omega arith)
    ∙ lt_yes _ _ _ _ (omega arith) ∙ lt_no _ _ _ _ (omega arith))

pub returns : goal.returns
returns c = sym (c.loop-i.invariant ∙ part_end c.args.s.now c.loop-i.i _ _ _ (omega arith))
