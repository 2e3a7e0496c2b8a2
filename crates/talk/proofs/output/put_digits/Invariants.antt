use mathlib.Core.Path.{◌≡◌}
use lib.ListN.{length}
use Rattle.talk.specs.Hexadecimal.{spelled}
use Rattle.talk.proofs.output.put_digits.Given as goal

abbrev pub invariant-loop-i : goal.invariant-loop-i
invariant-loop-i l = (l.out ≡ spelled l.i l.bytes l.initial.out) × (length l.out ≡ length l.initial.out)
