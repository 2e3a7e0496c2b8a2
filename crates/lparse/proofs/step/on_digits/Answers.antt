-- `on_digits`: the value that digits say goes to its row; it is at most the largest number.
use mathlib.Core.Path.{sym, ◌∙◌}
use native.Mathlib.Omega.{arith}
use borrow.Author.Rules.{rules}
use Rattle.decimal.proofs.Bounds.{value-bound, up_to}
use Rattle.lparse.proofs.step.on_digits.Goals as goal

pub overflow_cast-n : goal.overflow_cast-n
overflow_cast-n c =
    let h = up_to (value-bound 4294967295 0 c.args.word.now (omega arith))
    (sym c.read_digits.ensures ∙ c.in-Some.is) in
    search rules
