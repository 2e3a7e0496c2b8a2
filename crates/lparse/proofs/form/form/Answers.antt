-- Behind a word the rules of the rule that was open are added where it is whole.
use mathlib.Core.Path.{sym, ◌∙◌}
use Rattle.lparse.proofs.Formed.{said-helper, forms-open, forms-closed}
use Rattle.lparse.proofs.form.form.Goals as goal

pub returns-then-not-closes_rule : goal.returns-then-not-closes_rule
returns-then-not-closes_rule c = forms-open _ c.form_said-g.ensures (sym c.closes_rule.ensures ∙ c.if-not-closes_rule.true)

pub returns : goal.returns
returns c =
    forms-closed _ c.form_said-g.ensures (sym c.closes_rule.ensures ∙ c.if-not-closes_rule.false)
    (said-helper _ _ _) c.close_rule.ensures
