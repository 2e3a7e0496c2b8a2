-- `byte` stores the byte where there is room for it.
use mathlib.Core.Path.{sym}
use native.Mathlib.Omega.{arith}
use Rattle.meaning.proofs.Choice.{lt_yes, lt_no}
use Rattle.talk.specs.Gathered.{with_byte}
use Rattle.talk.proofs.line.Line.byte.Goals as goal

pub returns-then-self : goal.returns-then-self
unfolding with_byte
returns-then-self c = sym (lt_yes _ _ _ _ (omega arith))

pub returns-else-self : goal.returns-else-self
unfolding with_byte
returns-else-self c = sym (lt_no _ _ _ _ (omega arith))
