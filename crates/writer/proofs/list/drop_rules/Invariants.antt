use Rattle.meaning.specs.Bits.{listed}
use Rattle.meaning.specs.Written.{of}
use Rattle.writer.proofs.Lists.{Dropped}
use Rattle.writer.proofs.list.drop_rules.Given as goal

abbrev pub invariant-loop-r : goal.invariant-loop-r
invariant-loop-r l = Dropped (of (listed l.dropped.w)) (listed l.initial.off.w) l.initial.n l.initial.draft l.r (listed l.off.w) l.n l.draft
