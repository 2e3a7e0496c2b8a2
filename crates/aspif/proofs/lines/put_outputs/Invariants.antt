use Prim.Native.Nat.{◌-◌}
use Rattle.aspif.specs.Text.{output_lines}
use Rattle.aspif.proofs.Onward.{Onward}
use Rattle.aspif.proofs.lines.put_outputs.Given as goal

abbrev pub invariant-loop-n : goal.invariant-loop-n
invariant-loop-n l = Onward (output_lines 0 l.atoms) l.at l.initial.out (output_lines l.n (l.atoms - l.n)) l.end l.out
