-- `fill` stores one byte a turn, as its definition does.
use borrow.Author.Rules.{rules}
use Rattle.talk.proofs.Turns.{filled-turn}
use Rattle.talk.specs.Hexadecimal.{filled}
use Rattle.talk.proofs.hexadecimal.fill.Goals as goal

pub loop-i-init : goal.loop-i-init
unfolding filled
loop-i-init c = search rules

pub loop-i-preserved : goal.loop-i-preserved
loop-i-preserved c =
    (filled-turn c.args.word.now _ c.loop-i.i _ _ c.digit.ensures c.digit-in-loop-i.ensures _ c.loop-i.invariant.0, search rules)
