-- The two rules for a head of a choice: the first has the helper behind its negative atoms, the second the head alone.
use native.Mathlib.Omega.{arith}
use Rattle.lparse.proofs.HeadRules.{free-passed, free-added}
use Rattle.lparse.proofs.adding.add_free.Goals as goal

pub returns-then-c-ge255 : goal.returns-then-c-ge255
returns-then-c-ge255 c = λ k e clear low. rw c.passed.ensures (free-passed _ _ k _ _ _ e (omega arith))

pub returns : goal.returns
returns c = λ k e clear low.
    free-added k _ _ _ e (omega arith) clear low c.placed-more.ensures c.placed-one.ensures c.add_rule-first.ensures
    c.add_rule.ensures
