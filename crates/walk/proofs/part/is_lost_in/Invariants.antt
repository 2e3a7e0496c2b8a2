use Prim.Native.Nat.{◌-◌}
use Rattle.walk.proofs.Gathering.{Holding}
use Rattle.walk.proofs.part.is_lost_in.Given as goal

abbrev pub invariant-loop-i : goal.invariant-loop-i
invariant-loop-i l = Holding l.rowed.rows l.atoms.w l.off.w l.i

abbrev pub decreases-loop-i : goal.decreases-loop-i
decreases-loop-i l = 256 - l.i
