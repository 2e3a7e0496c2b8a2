-- A rule's negative atoms are the part of the book after its positive ones.
use Prim.Native.Nat.{◌+◌}
use Rattle.book.proofs.Places.{part-taken}
use Rattle.book.proofs.read.ReadBook.negatives.Goals as goal

pub returns : goal.returns
returns c =
    part-taken c.args.self.now.bytes.now (c.start_of-start.result + 3 + c.wide-p.result) _ _ _ c.wide-n.ensures.0
    (rw (← c.wide-p.ensures.0) at c.start_of-start.ensures.neg)
