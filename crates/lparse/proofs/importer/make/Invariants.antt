use Prim.Native.Nat.{◌-◌, ◌≤◌}
use lib.ListN.{length}
use Rattle.lparse.proofs.Turning.{Passing}
use Rattle.lparse.proofs.importer.make.Given as goal

abbrev pub invariant-loop-word : goal.invariant-loop-word
invariant-loop-word l = (l.at ≤ length l.text) × Passing l.text l.atoms l.at l.due l.f l.draft

abbrev pub decreases-loop-word : goal.decreases-loop-word
decreases-loop-word l = length l.text - l.at
