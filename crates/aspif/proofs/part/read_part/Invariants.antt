use Prim.Native.Nat.{◌-◌}
use lib.ListN.{length}
use Rattle.aspif.proofs.Gathered.{Gathers}
use Rattle.aspif.proofs.part.read_part.Given as goal

abbrev pub invariant-loop-value : goal.invariant-loop-value
invariant-loop-value l = Gathers l.text l.sign l.at l.table l.count l.top l.next l.small

abbrev pub decreases-loop-value : goal.decreases-loop-value
decreases-loop-value l = length l.text - l.next
