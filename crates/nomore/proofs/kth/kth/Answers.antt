-- The walk to the k-th reading, from its start: there is room for one row, and both sets are empty.
use Prim.Native.Nat.{◌-◌}
use native.Mathlib.Omega.{arith}
use Rattle.walk.proofs.Answering.{room-start, one-row}
use Rattle.nomore.proofs.Walking.{own-start}
use Rattle.nomore.proofs.kth.kth.Goals as goal

pub own-requires : goal.own-requires
own-requires c =
    let a = c.args in
    let b = c.of-rowed.result.book in
    (room-start _ (a.k - 1) 1 0 _ (omega arith) (one-row _ _ b.read_as a.answer.now (rw c.of-rowed.ensures c.requires.1)), tt)

pub returns : goal.returns
returns c =
    rw (← c.of-rowed.ensures) (own-start _ _ _ _ _ c.empty.ensures c.empty-2.ensures c.own.ensures)
