-- A rule's head is the first byte of its record.
use mathlib.Core.Path.{sym}
use Rattle.book.proofs.read.ReadBook.head.Goals as goal

pub returns : goal.returns
returns c = sym c.start_of-start.ensures.head
