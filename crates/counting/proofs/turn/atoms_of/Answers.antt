-- The atoms of the book as it is read.
use Rattle.counting.proofs.Summing.{good-atoms, bad-atoms}
use Rattle.counting.proofs.turn.atoms_of.Goals as goal

pub returns-in-Ok : goal.returns-in-Ok
returns-in-Ok c =
    good-atoms _ c.read_book.ensures c.in-Ok.is

pub returns-in-Err : goal.returns-in-Err
returns-in-Err c = bad-atoms _ c.read_book.ensures c.in-Err.is
