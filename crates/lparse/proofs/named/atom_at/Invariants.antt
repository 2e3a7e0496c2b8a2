use mathlib.Core.Path.{◌≡◌}
use lib.ListN.{drop}
use Rattle.lparse.specs.Names.{whose_in, whose_of}
use Rattle.lparse.proofs.named.atom_at.Given as goal

abbrev pub invariant-loop-x : goal.invariant-loop-x
invariant-loop-x l = whose_of l.seen l.n ≡ whose_in l.seen (drop l.x-index l.seen) l.n
