-- A part moved up: after so many bytes the table holds the atoms of these, moved up.
use native.Mathlib.Omega.{arith}
use Rattle.crews.proofs.Moving.{moved_none, moved_more, moved_all}
use Rattle.crews.proofs.lay.move_part.Goals as goal

pub loop-a-init : goal.loop-a-init
loop-a-init c = moved_none _

-- the byte that is read has its place in the table
pub bounds-table-wide : goal.bounds-table-wide
bounds-table-wide c =
    omega (arith, c.requires.at c.loop-a.a-index (omega arith), c.wide.ensures.0, c.wide-in-loop-a.ensures.0)

pub loop-a-preserved : goal.loop-a-preserved
loop-a-preserved c =
    moved_more c.args.up c.args.part.now c.loop-a.a-index (omega arith) c.loop-a.invariant
    (omega (arith, c.wide.ensures.0, c.wide-in-loop-a.ensures.0)) (omega (arith, c.requires.at c.loop-a.a-index (omega arith)))

pub returns : goal.returns
returns c =
    let a = c.args in
    moved_all a.up a.part.now {i = c.loop-a.a-index} (omega arith) c.loop-a.invariant
