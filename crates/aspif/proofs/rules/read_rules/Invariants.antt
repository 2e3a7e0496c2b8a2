use Prim.Native.Nat.{◌-◌}
use lib.ListN.{length}
use Rattle.aspif.proofs.Lined.{Lines}
use Rattle.aspif.proofs.rules.read_rules.Given as goal

abbrev pub invariant-loop-made : goal.invariant-loop-made
invariant-loop-made l = Lines l.text l.at l.draft l.making l.top l.next

abbrev pub decreases-loop-made : goal.decreases-loop-made
decreases-loop-made l = length l.text - l.next
