-- A contradiction ends the branch; without one the claim decides.
use mathlib.Core.Path.{sym, ◌∙◌}
use Rattle.book.proofs.Places.{shape-count}
use Rattle.checker.proofs.Conditions.{ended-clash, ended-shown}
use Rattle.checker.proofs.condition.is_ended.Goals as goal

pub returns-then-is_clashing : goal.returns-then-is_clashing
returns-then-is_clashing c =
    c.if-is_clashing.true
    ∙ sym (ended-clash _ _ _ _ _ (sym (shape-count _ _ c.args.book.now.read_as)) (sym c.is_clashing.ensures ∙ c.if-is_clashing.true))

pub returns-else-is_clashing : goal.returns-else-is_clashing
returns-else-is_clashing c =
    c.is_shown.ensures
    ∙ sym (ended-shown _ _ _ _ _ (sym (shape-count _ _ c.args.book.now.read_as)) (sym c.is_clashing.ensures ∙ c.if-is_clashing.false))
