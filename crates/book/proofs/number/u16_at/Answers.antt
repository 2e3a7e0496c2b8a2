-- The two bytes make the number of the format.
use borrow.Author.Rules.{rules}
use Rattle.book.specs.Format.{u16_at}
use Rattle.book.proofs.number.u16_at.Goals as goal

pub returns : goal.returns
unfolding u16_at
returns c = search rules
