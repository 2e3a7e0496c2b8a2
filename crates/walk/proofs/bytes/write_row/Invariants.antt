use mathlib.Core.Path.{◌≡◌}
use lib.ListN.{length}
use lib.Seq.{paste}
use Rattle.walk.proofs.RowBytes.{table_row}
use Rattle.walk.proofs.bytes.write_row.Given as goal

abbrev pub invariant-loop-a : goal.invariant-loop-a
invariant-loop-a l = (length l.out ≡ length l.initial.out) × (l.out ≡ paste l.initial.out l.at (table_row l.atoms l.set) l.a)
