-- The levels of a reading of a good book: no number, no room, no reading within the limit, or the levels of the colouring that its row leads to.
use Rattle.walk.proofs.Leveled.{levels-no-number, levels-no-room, levels-other, levels-full}
use Rattle.walk.proofs.descent.levels_in.Goals as goal

pub returns-then-k-eq0 : goal.returns-then-k-eq0
returns-then-k-eq0 c =
    levels-no-number _ _ c.args.book.read_as _ _ _ c.if-k-eq0.true

pub returns-then-out-book : goal.returns-then-out-book
returns-then-out-book c =
    levels-no-room _ _ c.args.book.read_as _ _ _ c.if-k-eq0.false c.if-out-book.true

pub returns-in_default : goal.returns-in_default
returns-in_default c =
    levels-other _ _ c.args.book.read_as _ _ _ c.if-k-eq0.false c.if-out-book.false (rw c.of-rowed.ensures at c.kth-t.ensures) c.tell.ensures
    c.in_default.not-Full

pub returns : goal.returns
returns c =
    levels-full _ _ c.args.book.read_as _ _ _ c.if-k-eq0.false c.if-out-book.false (rw c.of-rowed.ensures at c.kth-t.ensures) c.tell-2.ensures
    c.in-Full.is (rw c.of-rowed.ensures at c.descend-d.ensures) c.write_levels.ensures
