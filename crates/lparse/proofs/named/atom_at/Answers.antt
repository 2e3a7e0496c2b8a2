-- The search: the atoms passed have other numbers.
use borrow.Author.Rules.{rules}
use Rattle.lparse.proofs.Names.{whose-none, whose-here, whose-next}
use Rattle.lparse.proofs.named.atom_at.Goals as goal

pub returns-then-number_of-n : goal.returns-then-number_of-n
returns-then-number_of-n c =
    let a = c.args in
    whose-here a.seen.now a.n c.loop-x.x-index c.loop-x.invariant (search rules) c.number_of.ensures (search rules)

pub loop-x-preserved : goal.loop-x-preserved
loop-x-preserved c =
    let a = c.args in
    whose-next a.seen.now a.n c.loop-x.x-index c.loop-x.invariant (search rules) c.number_of.ensures c.if-number_of-n.false

pub returns : goal.returns
returns c =
    let a = c.args in
    whose-none a.seen.now a.n c.loop-x.x-index c.loop-x.invariant (search rules)
