-- The case that was taken tells the claim.
use mathlib.Core.Path.{ap}
use Rattle.meaning.specs.Told.{refused}
use Rattle.writer.proofs.Answering.{failing-naming, failing-clearing, failing-no-reading}
use Rattle.writer.proofs.answer.unproved.Goals as goal

pub returns-in-About-Naming-default : goal.returns-in-About-Naming-default
returns-in-About-Naming-default c = let a = c.in-About-Naming-default in ap refused (failing-naming _ a.is (rw a.is at a.field-0-is))

pub returns-in-About-Clearing-default : goal.returns-in-About-Clearing-default
returns-in-About-Clearing-default c = let a = c.in-About-Clearing-default in ap refused (failing-clearing _ a.is (rw a.is at a.field-0-is))

pub returns-in-NoReading : goal.returns-in-NoReading
returns-in-NoReading c = ap refused (failing-no-reading _ c.in-NoReading.is)
