use mathlib.Core.Path.{◌≡◌}
use Prim.Native.Nat.{◌-◌, ◌≤◌}
use Rattle.book.specs.Format.{records_of}
use Rattle.book.proofs.record.check_records.Given as goal

abbrev pub invariant-loop-rule : goal.invariant-loop-rule
invariant-loop-rule l =
    (l.start ≤ l.index)
    × (records_of l.rules l.book l.atoms l.index 0 0 ≡ records_of (l.rules - l.rule) l.book l.atoms l.index l.rule l.start)
