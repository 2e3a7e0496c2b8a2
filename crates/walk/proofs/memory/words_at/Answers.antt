-- The four words are those of the half row.
use mathlib.Core.Path.{refl}
use Rattle.book.specs.RuleRows.{row}
use Rattle.walk.proofs.memory.words_at.Goals as goal

pub returns : goal.returns
unfolding row
returns c = refl
