-- The rows of the members below the one at which the search stands are joined.
use native.Mathlib.Omega.{arith}
use Rattle.meaning.specs.Bits.{members}
use Rattle.closing.proofs.Spreading.{rows_start, rows-turn}
use Rattle.closing.proofs.propagation.spread.Goals as goal

pub loop-a-init : goal.loop-a-init
loop-a-init c =
    let s = c.args in
    let n = c.next_in-a.ensures in (
      (0, n),
      rows_start s.rowed.now.rows 512 (members s.atoms.now.w) (members s.by_neg.now.w) _ n,
      rows_start s.rowed.now.rows 256 (members s.atoms.now.w) (members s.by_pos.now.w) _ n,
    )

pub loop-a-preserved : goal.loop-a-preserved
loop-a-preserved c =
    let s = c.args in
    let j = c.join_rows.ensures in
    let (from, n) = c.loop-a.invariant.0 in (
      (_, c.next_in-a-in-loop-a.ensures),
      rows-turn s.rowed.now.rows 512 (members s.atoms.now.w) (members s.by_neg.now.w) from c.loop-a.a _ n (omega arith) c.next_in-a-in-loop-a.ensures c.loop-a.invariant.1 j.0,
      rows-turn s.rowed.now.rows 256 (members s.atoms.now.w) (members s.by_pos.now.w) from c.loop-a.a _ n (omega arith) c.next_in-a-in-loop-a.ensures c.loop-a.invariant.2 j.1,
    )
