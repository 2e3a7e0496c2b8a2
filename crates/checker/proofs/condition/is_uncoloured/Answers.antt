-- The two tests are the two sides of `uncoloured`.
use mathlib.Core.Path.{sym, ap, ◌∙◌}
use mathlib.Core.Bool.{not}
use Rattle.checker.proofs.Conditions.{uncoloured-on, uncoloured-off}
use Rattle.checker.proofs.condition.is_uncoloured.Goals as goal

pub returns-then-not-has : goal.returns-then-not-has
returns-then-not-has c =
    ap not c.has-then-not-has.ensures ∙ sym (uncoloured-off _ _ _ (sym c.has.ensures ∙ c.if-not-has.true))

pub returns-else-not-has : goal.returns-else-not-has
returns-else-not-has c =
    ap not c.if-not-has.false ∙ sym (uncoloured-on _ _ _ (sym c.has.ensures ∙ c.if-not-has.false))
