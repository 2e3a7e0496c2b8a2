-- The walk along the events of the shown atoms.
use Rattle.walk.proofs.Selecting.{selected-all}
use Rattle.walk.proofs.selected.kth_shown.Goals as goal

pub walk_to-requires : goal.walk_to-requires
walk_to-requires c = (c.requires.0, rw c.of-rowed.ensures c.requires.1)

pub returns : goal.returns
returns c =
    let book = c.args.book in
    selected-all _ book.shape book.read_as book.small.1 c.args.shown.now _ c.mask_of-mask.ensures c.requires.2 _ _
    (rw c.of-rowed.ensures at c.walk_to.ensures)
