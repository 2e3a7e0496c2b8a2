use mathlib.Core.Path.{◌≡◌}
use Prim.Native.Nat.{◌+◌}
use lib.ListN.{drop}
use Rattle.book.specs.Format.{part_of}
use Rattle.book.proofs.part.check_part.Given as goal

abbrev pub invariant-loop-i : goal.invariant-loop-i
invariant-loop-i l = part_of l.atoms l.at 0 l.s ≡ part_of l.atoms (l.at + l.i) l.least (drop l.i l.s)
