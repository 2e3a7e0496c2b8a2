use Rattle.lparse.proofs.HeadRules.{HeadsAdded}
use Rattle.lparse.proofs.adding.add_heads.Given as goal

abbrev pub invariant-loop-head : goal.invariant-loop-head
invariant-loop-head l =
    HeadsAdded l.fn.o.free l.fn.o.heads l.fn.o.pos l.fn.o.neg l.count l.c l.initial.made l.initial.draft l.made l.helper l.head-index l.draft
