-- The case that was taken tells the claim, and the mark of its kind is asked for.
use mathlib.Core.Path.{sym, ◌∙◌, ap}
use Rattle.meaning.specs.Claim.{mark}
use Rattle.meaning.proofs.Marks.{mark-of-claim, mark-of-no-reading}
use Rattle.meaning.proofs.kind.Claim.mark.Goals as goal

pub returns-in-About : goal.returns-in-About
returns-in-About c = c.mark.ensures ∙ sym (ap mark c.in-About.is ∙ mark-of-claim _ _)

pub returns-in-NoReading : goal.returns-in-NoReading
returns-in-NoReading c = sym (ap mark c.in-NoReading.is ∙ mark-of-no-reading)
