-- The test decides.
use mathlib.Core.Path.{sym, ◌∙◌}
use Rattle.meaning.proofs.Choice.{b-yes, b-no}
use Rattle.talk.proofs.output.plain.Goals as goal

pub returns-then-is_ascii_control : goal.returns-then-is_ascii_control
returns-then-is_ascii_control c =
    sym (b-yes _ _ _ (sym c.is_ascii_control.ensures.value ∙ c.if-is_ascii_control.true))

pub returns-else-is_ascii_control : goal.returns-else-is_ascii_control
returns-else-is_ascii_control c =
    sym (b-no _ _ _ (sym c.is_ascii_control.ensures.value ∙ c.if-is_ascii_control.false))
