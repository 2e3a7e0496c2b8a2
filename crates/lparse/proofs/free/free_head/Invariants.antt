use mathlib.Core.Path.{◌≡◌}
use Prim.Native.Nat.{◌-◌, ◌≤◌}
use lib.ListN.{length}
use Rattle.lparse.specs.Reading.{heard_at}
use Rattle.lparse.specs.FreeHeads.{free_head_of}
use Rattle.lparse.proofs.FreeHeads.{found_from}
use Rattle.lparse.proofs.free.free_head.Given as goal

abbrev pub invariant-loop-word : goal.invariant-loop-word
invariant-loop-word l =
    (l.at ≤ length l.text) × (free_head_of l.text l.j ≡ found_from l.found l.left (heard_at l.text l.at l.due))

abbrev pub decreases-loop-word : goal.decreases-loop-word
decreases-loop-word l = length l.text - l.at
