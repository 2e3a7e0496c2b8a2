-- A record's length, from its two counts.
use borrow.Author.Rules.{rules}
use Rattle.book.specs.Format.{length_of}
use Rattle.book.proofs.record.record_length.Goals as goal

pub returns : goal.returns
unfolding length_of
returns c = search rules
