-- The atom's row of heads lies within the set.
use Rattle.book.proofs.RuleRows.{lost-asked}
use Rattle.book.proofs.asking.is_lost.Goals as goal

pub returns : goal.returns
returns c = lost-asked _ _ _ _ c.head_row.ensures c.is_within.ensures
