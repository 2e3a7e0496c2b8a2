-- The rules of the list are rules of the book, and have places in the set.
use native.Mathlib.Omega.{arith}
use Rattle.checker.proofs.Lists.{below_more}
use Rattle.explaining.proofs.tell.tell_list.Goals as goal

pub with_rules-gone-requires : goal.with_rules-gone-requires
with_rules-gone-requires g c = below_more (omega arith) c.requires

pub tell_starved-requires : goal.tell_starved-requires
tell_starved-requires g c = c.requires.at c.loop-r.r-index (omega arith)
