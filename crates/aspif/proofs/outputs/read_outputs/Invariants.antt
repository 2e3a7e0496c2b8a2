use mathlib.Core.Path.{◌≡◌}
use Prim.Native.Nat.{◌-◌}
use lib.ListN.{length}
use Rattle.aspif.proofs.OutputsCounted.{Counted}
use Rattle.aspif.proofs.outputs.read_outputs.Given as goal

abbrev pub invariant-loop-end : goal.invariant-loop-end
invariant-loop-end l = (length l.line ≡ 64) × Counted l.text l.at l.count l.next

abbrev pub decreases-loop-end : goal.decreases-loop-end
decreases-loop-end l = length l.text - l.next
