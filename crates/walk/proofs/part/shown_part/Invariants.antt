use Prim.Native.Nat.{◌-◌}
use Rattle.walk.proofs.Gathering.{Parted}
use Rattle.walk.proofs.part.shown_part.Given as goal

abbrev pub invariant-loop-i : goal.invariant-loop-i
invariant-loop-i l = Parted l.rowed.rows l.mask.w l.on.w l.part.w l.i

abbrev pub decreases-loop-i : goal.decreases-loop-i
decreases-loop-i l = 256 - l.i
