-- The rule for an entry: its tables hold the entry and the helper, and no other atom.
use native.Mathlib.Omega.{arith}
use Rattle.lparse.proofs.Entries.{minus-passed, minus-added}
use Rattle.lparse.proofs.form.add_minus.Goals as goal

pub returns-then-h-ge255 : goal.returns-then-h-ge255
returns-then-h-ge255 c = λ k e h. rw c.passed.ensures (minus-passed _ _ _ k e (omega arith))

pub returns : goal.returns
returns c = λ k e h.
    minus-added _ k e (omega arith) h c.placed-one.ensures c.placed-helper.ensures c.add_rule.ensures
