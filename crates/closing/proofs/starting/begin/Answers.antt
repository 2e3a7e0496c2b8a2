-- The atoms below the one at which the search stands are noted.
use native.Mathlib.Omega.{arith}
use Rattle.book.specs.RuleRows.{headed_by, lost_by}
use Rattle.closing.proofs.Noting.{no-atoms, count-start, count_turn, count-end}
use Rattle.closing.proofs.starting.begin.Goals as goal

pub loop-a-init : goal.loop-a-init
loop-a-init c =
    let s = c.args in (count-start (headed_by s.rowed.now.rows s.on.now.w) no-atoms, count-start (lost_by s.rowed.now.rows s.off.now.w) no-atoms)

pub loop-a-preserved : goal.loop-a-preserved
loop-a-preserved c =
    let s = c.args in (
      count_turn (headed_by s.rowed.now.rows s.on.now.w) c.loop-a.a c.loop-a.invariant.0 c.note_atom.ensures.0,
      count_turn (lost_by s.rowed.now.rows s.off.now.w) c.loop-a.a c.loop-a.invariant.1 c.note_atom.ensures.1,
    )

pub returns : goal.returns
returns c =
    let s = c.args in (
      count-end (headed_by s.rowed.now.rows s.on.now.w) c.loop-a.a s.rowed.now.book.shape.atoms (omega arith) c.loop-a.invariant.0,
      count-end (lost_by s.rowed.now.rows s.off.now.w) c.loop-a.a s.rowed.now.book.shape.atoms (omega arith) c.loop-a.invariant.1,
    )
