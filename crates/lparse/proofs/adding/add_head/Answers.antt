-- A head of a choice has two rules, that of a basic rule one.
use Rattle.lparse.proofs.HeadRules.{head-free, head-basic}
use Rattle.lparse.proofs.adding.add_head.Goals as goal

pub returns-then-free : goal.returns-then-free
returns-then-free c = λ k e clear low. head-free _ k _ _ c.if-free.true (c.add_free.ensures k e clear low)

pub returns : goal.returns
returns c = λ k e clear low.
    head-basic _ k _ _ c.if-free.false c.add_rule.ensures
