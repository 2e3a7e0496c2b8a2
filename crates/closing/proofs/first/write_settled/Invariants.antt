-- A row written: its first i bytes stand in the buffer, and all others are those from before.
use mathlib.Core.Path.{◌≡◌}
use lib.ListN.{length}
use lib.Seq.{paste}
use Rattle.meaning.specs.Bits.{listed}
use Rattle.closing.specs.Settle.{settled_row}
use Rattle.closing.proofs.first.write_settled.Given as goal

abbrev pub invariant-loop-i : goal.invariant-loop-i
invariant-loop-i l = (length l.out ≡ length l.initial.out) × (l.out ≡ paste l.initial.out l.at (settled_row l.n (listed l.holds.w) (listed l.fails.w)) l.i)
