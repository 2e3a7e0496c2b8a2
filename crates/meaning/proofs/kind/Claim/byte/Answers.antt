-- The case that was taken tells the claim.
use mathlib.Core.Path.{sym, ◌∙◌, ap}
use Rattle.meaning.specs.Claim.{claimed}
use Rattle.meaning.proofs.Marks.{claimed-claim, claimed-no-reading}
use Rattle.meaning.proofs.kind.Claim.byte.Goals as goal

pub returns-in-About : goal.returns-in-About
returns-in-About c = sym (ap claimed c.in-About.is ∙ claimed-claim _ _)

pub returns-in-NoReading : goal.returns-in-NoReading
returns-in-NoReading c = sym (ap claimed c.in-NoReading.is ∙ claimed-no-reading)
