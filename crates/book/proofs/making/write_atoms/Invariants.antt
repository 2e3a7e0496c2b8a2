use Rattle.book.specs.Writing.{atom_bytes}
use Rattle.book.specs.Making.{said_of, atoms_from, Puts}
use Rattle.book.proofs.making.write_atoms.Given as goal

abbrev pub invariant-loop-a : goal.invariant-loop-a
invariant-loop-a l = Puts (atom_bytes (atoms_from 0 l.a (said_of l.table))) l.at l.initial.draft l.n l.draft
