-- A word that says no atom changes nothing; one that says an atom has it noted.
use Rattle.lparse.specs.Collect.{atoms_said}
use Rattle.lparse.proofs.Noting.{note-silent}
use Rattle.lparse.proofs.gather.note.Goals as goal

pub returns-in-Nothing : goal.returns-in-Nothing
unfolding atoms_said
returns-in-Nothing c = rw c.in-Nothing.is (note-silent _ _)

pub returns-in-Choice : goal.returns-in-Choice
unfolding atoms_said
returns-in-Choice c = rw c.in-Choice.is (note-silent _ _)

pub returns-in-Atom : goal.returns-in-Atom
unfolding atoms_said
returns-in-Atom c =
    rw c.in-Atom.is c.note_atom.ensures
