-- `digit` goes through the choices of its definition in their order.
use mathlib.Core.Path.{sym}
use native.Mathlib.Omega.{arith}
use Rattle.talk.specs.Hexadecimal.{digit_for}
use Rattle.meaning.proofs.Choice.{lt_yes, lt_no}
use Rattle.talk.proofs.output.digit.Goals as goal

pub returns-then-value-lt10 : goal.returns-then-value-lt10
unfolding digit_for
returns-then-value-lt10 c = sym (lt_yes _ _ _ _ (omega arith))

pub returns : goal.returns
unfolding digit_for
returns c = sym (lt_no _ _ _ _ (omega arith))
