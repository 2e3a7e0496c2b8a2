-- Four words, one after the other.
use mathlib.Core.Path.{refl}
use Rattle.book.specs.RuleRows.{row}
use Rattle.book.proofs.standing.row_at.Goals as goal

pub returns : goal.returns
unfolding row
returns c = refl
