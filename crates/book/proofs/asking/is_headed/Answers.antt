-- The atom's row of heads meets the set.
use Rattle.book.proofs.RuleRows.{headed-asked}
use Rattle.book.proofs.asking.is_headed.Goals as goal

pub returns : goal.returns
returns c = headed-asked _ _ _ _ c.head_row.ensures c.meets.ensures
