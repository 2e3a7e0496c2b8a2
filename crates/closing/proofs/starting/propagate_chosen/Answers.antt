-- Each choice is propagated as it may be: it may be taken, as the arm of the match tells it.
use Rattle.book.proofs.Places.{in-shape}
use Rattle.closing.proofs.starting.propagate_chosen.Goals as goal

pub propagate_put-requires : goal.propagate_put-requires
propagate_put-requires c =
    let (h, p) = rw c.in-On.is at c.requires in (in-shape _ _ c.args.rowed.now.book.read_as _ h, p)

pub propagate_put-requires-in-Off : goal.propagate_put-requires-in-Off
propagate_put-requires-in-Off c =
    let (h, p) = rw c.in-Off.is at c.requires in (in-shape _ _ c.args.rowed.now.book.read_as _ h, p)
