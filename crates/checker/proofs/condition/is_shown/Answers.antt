-- The claim is asked by its cases.
use mathlib.Core.Path.{sym, ◌∙◌}
use Rattle.checker.proofs.Conditions.{shown-naming, shown-clearing, shown-no-reading}
use Rattle.checker.proofs.condition.is_shown.Goals as goal

pub returns-in-Naming : goal.returns-in-Naming
returns-in-Naming c =
    c.is_head.ensures ∙ sym (shown-naming _ _ _ _ c.in-About.is c.in-Naming.is)

pub returns-in-Clearing : goal.returns-in-Clearing
returns-in-Clearing c =
    c.is_lost.ensures ∙ sym (shown-clearing _ _ _ _ c.in-About.is c.in-Clearing.is)

pub returns-in-NoReading : goal.returns-in-NoReading
returns-in-NoReading c = sym (shown-no-reading _ _ _ _ c.in-NoReading.is)
