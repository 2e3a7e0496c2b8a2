-- A rule's positive atoms are the part of the book after its counts.
use Prim.Native.Nat.{◌+◌}
use Rattle.book.proofs.Places.{part-taken}
use Rattle.book.proofs.read.ReadBook.positives.Goals as goal

pub returns : goal.returns
returns c =
    let p = c.start_of-start in
    part-taken c.args.self.now.bytes.now (p.result + 3) _ _ _
    c.wide-p.ensures.0 p.ensures.pos
