use mathlib.Core.Path.{◌≡◌}
use Prim.Native.Nat.{◌-◌, ◌≤◌}
use lib.ListN.{length}
use Rattle.lparse.specs.Reading.{heard_at}
use Rattle.lparse.specs.Names.{name_of}
use Rattle.lparse.proofs.Names.{named_by}
use Rattle.lparse.proofs.named.nth_name.Given as goal

abbrev pub invariant-loop-word : goal.invariant-loop-word
invariant-loop-word l =
    (l.at ≤ length l.text) × (name_of l.text l.a l.k ≡ named_by l.found l.left (heard_at l.text l.at l.due) l.a)

abbrev pub decreases-loop-word : goal.decreases-loop-word
decreases-loop-word l = length l.text - l.at
