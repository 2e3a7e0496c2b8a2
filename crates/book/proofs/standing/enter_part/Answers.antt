-- What is there and the atoms that are left come to the whole part.
use native.Mathlib.Omega.{arith}
use Rattle.book.proofs.RowStores.{part-again, part-done}
use Rattle.book.proofs.standing.enter_part.Goals as goal

pub enter-requires : goal.enter-requires
enter-requires c = (omega (arith, c.wide.ensures.1, c.requires.0), c.loop-a.invariant.0)

pub loop-a-preserved : goal.loop-a-preserved
loop-a-preserved c =
    (c.enter.ensures.1, part-again _ _ c.args.part.now c.loop-a.a-index _ _ c.loop-a.invariant.1 c.wide.result _ (omega arith) c.wide.ensures.0 c.enter.ensures.0)

pub returns : goal.returns
returns c = (part-done _ _ _ c.loop-a.a-index _ _ c.loop-a.invariant.1 (omega arith), c.loop-a.invariant.0)
