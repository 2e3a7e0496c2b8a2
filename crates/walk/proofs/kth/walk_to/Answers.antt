-- The walk to the k-th reading, from its start: there is room for one row, the colouring is empty, and nothing is remembered. At its end the
-- rule is told.
use Prim.Native.Nat.{◌-◌}
use native.Mathlib.Omega.{arith}
use Rattle.walk.proofs.Answering.{room-start, one-row, shallow-start}
use Rattle.walk.proofs.ToldClash.{told-start, told-end}
use Rattle.walk.proofs.kth.walk_to.Goals as goal

pub walk_shown-t-requires : goal.walk_shown-t-requires
walk_shown-t-requires c =
    let a = c.args in
    let book = a.rowed.now.book in (
      room-start _ (a.k - 1) 1 0 _ (omega arith) (one-row _ _ book.read_as a.answer.now c.requires.1),
      shallow-start _ _ book.read_as book.small.1 c.empty.ensures,
      record { kept = λ e k h l. absurd (omega arith) },
      tt,
    )

pub returns : goal.returns
returns c =
    told-end _ _ c.walk_shown-t.result _ c.tell_clash.ensures
    (rw c.empty.ensures at (told-start _ _ _ _ _ _ c.walk_shown-t.ensures.0))
