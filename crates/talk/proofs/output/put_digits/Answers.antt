-- `put_digits` writes the two digits of one byte a turn, as its definition does.
use borrow.Author.Rules.{rules}
use lib.ListN.{length-set}
use Rattle.talk.specs.Hexadecimal.{spelled}
use Rattle.talk.proofs.Turns.{spelled-turn}
use Rattle.talk.proofs.output.put_digits.Goals as goal

pub loop-i-init : goal.loop-i-init
unfolding spelled
loop-i-init c = search rules

pub loop-i-preserved : goal.loop-i-preserved
loop-i-preserved c = (
  spelled-turn _ _ c.loop-i.i _ _ c.digit.ensures c.digit-in-loop-i.ensures _ c.loop-i.invariant.0,
  simp length-set c.loop-i.invariant.1,
)
