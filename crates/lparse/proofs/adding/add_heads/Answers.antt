-- The loop over the heads: the rules for those passed are added, and the next helper is counted on by as many.
use Rattle.lparse.proofs.HeadRules.{heads-begun, heads-turn, heads-all}
use Rattle.lparse.proofs.adding.add_heads.Goals as goal

pub loop-head-init : goal.loop-head-init
loop-head-init c =
    let a = c.args in
    heads-begun a.o.free a.o.heads a.o.pos a.o.neg a.count a.c _ _

pub loop-head-preserved : goal.loop-head-preserved
loop-head-preserved c =
    let a = c.args in
    heads-turn a.o.free a.o.heads a.o.pos a.o.neg a.count a.c _ _ c.loop-head.invariant c.loop-head-test.true c.requires c.add_head-made.ensures
    c.counted_on-helper.ensures

pub returns : goal.returns
returns c =
    let a = c.args in
    heads-all a.o.free a.o.heads a.o.pos a.o.neg a.count a.c _ _ c.loop-head.invariant c.loop-head.auto.head-index-end c.loop-head-test.false c.requires
