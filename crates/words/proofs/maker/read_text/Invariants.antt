use mathlib.Core.Path.{◌≡◌}
use Prim.Native.Nat.{◌-◌}
use lib.ListN.{length}
use Rattle.words.specs.declared.step.Fate.TheVariants.{Goes}
use Rattle.words.specs.Progress.{Along}
use Rattle.words.proofs.maker.read_text.Given as goal

abbrev pub invariant-loop-next : goal.invariant-loop-next
invariant-loop-next l = Along l.text l.r l.draft × (l.r.fate ≡ Goes)

abbrev pub decreases-loop-next : goal.decreases-loop-next
decreases-loop-next l = length l.text - l.r.at
