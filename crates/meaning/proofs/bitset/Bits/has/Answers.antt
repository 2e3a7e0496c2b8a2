use mathlib.Core.Path.{sym, ap, ◌∙◌}
use native.Mathlib.Omega.{arith}
use Rattle.meaning.specs.Bits.{bit}
use Rattle.meaning.specs.Books.{Rules, rule_no}
use Rattle.meaning.proofs.Four.{members-bit}
use Rattle.meaning.proofs.Listed.{of-listed}
use Rattle.meaning.proofs.bitset.Bits.has.Goals as goal

pub returns : goal.returns
unfolding bit
returns c =
    let a = c.args in
    sym (ap (λ (s : Rules). s (rule_no a.i)) (of-listed a.self.now.w) ∙ members-bit a.self.now.w a.i (omega arith))
