-- `read_number` says what the digits say; they are up to 4,294,967,295, so the number keeps its value.
use mathlib.Core.Path.{sym, ◌∙◌}
use native.Mathlib.Omega.{arith}
use Rattle.decimal.proofs.Bounds.{plain-bound, up_to}
use Rattle.talk.specs.Decimal.{number_of}
use Rattle.talk.proofs.numbers.read_number.Goals as goal

pub overflow_cast-result : goal.overflow_cast-result
overflow_cast-result c = omega (arith, up_to (plain-bound 4294967295 _) (sym c.read_plain.ensures ∙ c.in_ok-value.was))

pub returns-in_err-value : goal.returns-in_err-value
unfolding number_of
returns-in_err-value c = c.from_residual.ensures ∙ sym c.in_err-value.was ∙ c.read_plain.ensures

pub returns : goal.returns
unfolding number_of
returns c = sym c.in_ok-value.was ∙ c.read_plain.ensures
