use mathlib.Core.Path.{◌≡◌}
use lib.ListN.{length}
use Rattle.book.specs.Making.{said_of, atoms_from}
use Rattle.book.proofs.making.count_atoms.Given as goal

abbrev pub invariant-loop-said : goal.invariant-loop-said
invariant-loop-said l = l.n ≡ length (atoms_from 0 l.said-index (said_of l.table))
