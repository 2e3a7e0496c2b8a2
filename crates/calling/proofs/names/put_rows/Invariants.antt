-- The rows so far are those of the atoms so far.
use mathlib.Core.Path.{◌≡◌}
use Rattle.calling.specs.Rows.{rows_of}
use Rattle.calling.proofs.names.put_rows.Given as goal

abbrev pub invariant-loop-a : goal.invariant-loop-a
invariant-loop-a l = l.names ≡ rows_of l.a l.text l.from l.to l.initial.names
