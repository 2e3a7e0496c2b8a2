-- All true atoms, all lost atoms and all rules are handed on.
use Rattle.closing.proofs.Starts.{begun-pending}
use Rattle.closing.proofs.starting.propagate.Goals as goal

pub propagate_from-requires : goal.propagate_from-requires
propagate_from-requires c =
    let r = c.args.rowed.now in
    begun-pending r.book.bytes.now r.book.shape r.book.read_as r.book.small.0 r.rows r.rowed c.args.on.now.w c.args.off.now.w
    c.begin.new.nt.w c.begin.new.nl.w c.below.result.w c.begin.ensures.0 c.begin.ensures.1 c.below.ensures
