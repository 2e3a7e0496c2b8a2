-- A rule that generates a row's set: its positive atoms first, then its negative ones.
use mathlib.Core.Path.{◌∙◌}
use Rattle.walk.proofs.Agreeing.{generates-not, generates-if}
use Rattle.walk.proofs.resume.generates.Goals as goal

pub returns-else-all_so : goal.returns-else-all_so
returns-else-all_so c =
    c.if-all_so.false ∙ generates-not _ _ _ c.positives.ensures c.all_so.ensures c.if-all_so.false

pub returns-then-all_so : goal.returns-then-all_so
returns-then-all_so c =
    generates-if _ _ _ c.positives.ensures c.all_so.ensures c.if-all_so.true c.negatives.ensures
    c.all_so-then-all_so.ensures
