use mathlib.Core.Path.{◌≡◌}
use Prim.Native.Nat.{◌-◌, ◌≤◌}
use lib.ListN.{length}
use Rattle.lparse.specs.Reading.{heard_at}
use Rattle.lparse.proofs.Collecting.{Gathering}
use Rattle.lparse.proofs.gather.collect.Given as goal

abbrev pub invariant-loop-word : goal.invariant-loop-word
invariant-loop-word l =
    (l.at ≤ length l.text) × (l.seen ≡ l.initial.seen) × Gathering l.text l.initial.seen l.found l.n (heard_at l.text l.at l.due)

abbrev pub decreases-loop-word : goal.decreases-loop-word
decreases-loop-word l = length l.text - l.at
