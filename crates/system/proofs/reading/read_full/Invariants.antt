-- `read_full` ends, since each turn leaves less to fill.
use Rattle.std.proofs.Common.{length, ◌-◌, ◌≡◌, ◌^◌, ◌<◌, ◌≤◌}
use Rattle.system.proofs.reading.read_full.Given as goal

abbrev pub invariant-loop-done : goal.invariant-loop-done
invariant-loop-done g l = (length l.out ≡ length l.initial.out) × (l.done ≤ length l.out) × (length l.out < 2 ^ 64)

abbrev pub decreases-loop-done : goal.decreases-loop-done
decreases-loop-done g l = length l.out - l.done
