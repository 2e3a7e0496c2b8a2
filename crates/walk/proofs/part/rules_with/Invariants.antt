use Prim.Native.Nat.{◌-◌}
use Rattle.walk.proofs.Gathering.{Gathered}
use Rattle.walk.proofs.part.rules_with.Given as goal

abbrev pub invariant-loop-i : goal.invariant-loop-i
invariant-loop-i l = Gathered l.rowed.rows l.atoms.w l.all.w l.i

abbrev pub decreases-loop-i : goal.decreases-loop-i
decreases-loop-i l = 256 - l.i
