use Rattle.meaning.specs.Bits.{listed}
use Rattle.writer.specs.Steps.{outside}
use Rattle.writer.proofs.Lists.{Found}
use Rattle.writer.proofs.list.list_unmarked.Given as goal

abbrev pub invariant-loop-r : goal.invariant-loop-r
invariant-loop-r l = Found (outside (listed l.marks.w) (listed l.off.w)) l.r (listed l.dropped.w) l.m
