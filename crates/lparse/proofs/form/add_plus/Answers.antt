-- The rule for an entry: its tables hold the entry and the helper, and no other atom.
use native.Mathlib.Omega.{arith}
use Rattle.lparse.proofs.Entries.{plus-passed, plus-added}
use Rattle.lparse.proofs.form.add_plus.Goals as goal

pub returns-then-h-ge255 : goal.returns-then-h-ge255
returns-then-h-ge255 c = λ k e h. rw c.passed.ensures (plus-passed _ _ _ k e (omega arith))

pub returns : goal.returns
returns c = λ k e h.
    plus-added _ k e (omega arith) h c.placed.ensures c.placed-both.ensures c.add_rule.ensures
