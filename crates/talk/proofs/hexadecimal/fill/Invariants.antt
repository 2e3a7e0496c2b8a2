use mathlib.Core.Path.{◌≡◌}
use lib.ListN.{length}
use Rattle.talk.specs.Hexadecimal.{filled}
use Rattle.talk.proofs.hexadecimal.fill.Given as goal

abbrev pub invariant-loop-i : goal.invariant-loop-i
invariant-loop-i l = (l.out ≡ filled l.i l.word l.initial.out) × (length l.out ≡ length l.initial.out)
