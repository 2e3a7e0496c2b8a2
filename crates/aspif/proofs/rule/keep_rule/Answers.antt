-- `keep_rule` adds the rule of the two tables, or says that it passes the limits.
use native.Mathlib.Omega.{arith}
use Rattle.book.proofs.Made.{adds-passed}
use Rattle.aspif.proofs.Gathered.{over-pos, over-neg, over-head, rule-kept}
use Rattle.aspif.proofs.rule.keep_rule.Goals as goal

pub returns-then-not-positive : goal.returns-then-not-positive
returns-then-not-positive c = λ p q a h d k. rw c.passed.ensures (adds-passed _ _ _ (over-pos _ p q c.if-not-positive.true h))

pub returns-then-not-negative : goal.returns-then-not-negative
returns-then-not-negative c = λ p q a h d k. rw c.passed-then-not-negative.ensures (adds-passed _ _ _ (over-neg _ p q c.if-not-negative.true k))

pub returns-then-head-gt255 : goal.returns-then-head-gt255
returns-then-head-gt255 c = λ p q a h d k. rw c.passed-then-head-gt255.ensures (adds-passed _ _ _ (over-head _ p q (omega arith)))

pub returns : goal.returns
returns c =
    λ p q a h d k.
    rw (rule-kept _ p q c.if-not-positive.false c.if-not-negative.false a h d k) at c.add_rule.ensures
