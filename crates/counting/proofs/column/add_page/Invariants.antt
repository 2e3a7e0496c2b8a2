use Rattle.std.proofs.Common.{◌≡◌, length}
use Rattle.counting.proofs.Numbers.{over}
use Rattle.counting.proofs.Columns.{sums}
use Rattle.counting.proofs.column.add_page.Given as goal

abbrev pub invariant-loop-a : goal.invariant-loop-a
invariant-loop-a l = (length l.counts ≡ 255) × (l.counts ≡ over (sums l.page l.atoms l.rows l.initial.counts) l.initial.counts l.a)
