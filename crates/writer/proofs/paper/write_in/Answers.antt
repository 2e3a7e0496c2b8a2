-- The claim decides: 13 for an atom that the book doesn't have, then a paper with a witness or one without.
use mathlib.Core.Path.{refl}
use native.Mathlib.Omega.{arith}
use Rattle.book.proofs.Places.{shape-atoms}
use Rattle.writer.proofs.Answering.{claimed-atom, claimed-nothing, about-no-atom, about-atom, about-nothing}
use Rattle.writer.proofs.paper.write_in.Goals as goal

pub returns-then-book-atom : goal.returns-then-book-atom
returns-then-book-atom c =
    about-no-atom _ _ _ _ c.in-About.is (omega (arith, shape-atoms _ _ c.args.book.now.read_as, c.if-book-atom.true))

pub write_witnessed-requires : goal.write_witnessed-requires
write_witnessed-requires c =
    claimed-atom _ refl (omega arith)

pub write_unwitnessed-requires : goal.write_unwitnessed-requires
write_unwitnessed-requires c =
    claimed-nothing _ c.in-NoReading.is

pub returns-else-book-atom : goal.returns-else-book-atom
returns-else-book-atom c =
    about-atom _ _ _ _ c.in-About.is (omega (arith, shape-atoms _ _ c.args.book.now.read_as, c.if-book-atom.false))
    c.write_witnessed.ensures

pub returns-in-NoReading : goal.returns-in-NoReading
returns-in-NoReading c =
    about-nothing _ _ _ _ c.in-NoReading.is c.write_unwitnessed.ensures
