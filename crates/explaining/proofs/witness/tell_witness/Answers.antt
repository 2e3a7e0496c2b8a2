-- The rules of the list have places in the set.
use native.Mathlib.Omega.{arith}
use Rattle.checker.proofs.Lists.{below_more}
use Rattle.explaining.proofs.witness.tell_witness.Goals as goal

pub with_rules-on-requires : goal.with_rules-on-requires
with_rules-on-requires g c = below_more (omega arith) c.requires.0
