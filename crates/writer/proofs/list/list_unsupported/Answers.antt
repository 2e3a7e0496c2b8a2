-- The rules outside support that aren't off: those that aren't marked, where the marks are the support.
use Rattle.writer.proofs.Lists.{outside-unsupported}
use Rattle.book.proofs.Places.{shape-count}
use Rattle.book.specs.Format.{book_in}
use Rattle.writer.proofs.list.list_unsupported.Goals as goal

pub returns : goal.returns
returns c =
    let v = c.list_unmarked.ensures (book_in c.args.book.now.bytes.now) (shape-count _ _ c.args.book.now.read_as) in
    λ on. rw (outside-unsupported _ _ on _ c.support.ensures) at v
