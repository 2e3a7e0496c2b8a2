-- The claim is asked by its cases, at the place of its atom.
use Rattle.writer.proofs.Choosing.{claimed-at, tabled-naming, tabled-clearing, tabled-no-reading}
use Rattle.writer.proofs.step.is_shown.Goals as goal

pub bounds-headed-wide : goal.bounds-headed-wide
bounds-headed-wide c = claimed-at _ c.in-About-Naming-default.is c.wide.ensures.0 c.requires

pub bounds-lost-wide : goal.bounds-lost-wide
bounds-lost-wide c = claimed-at _ c.in-About-Clearing-default.is c.wide-in-About-Clearing-default.ensures.0 c.requires

pub returns-in-About-Naming-default : goal.returns-in-About-Naming-default
returns-in-About-Naming-default c =
    let a = c.in-About-Naming-default in tabled-naming _ _ _ a.is _ c.wide.ensures.0 (rw a.is at a.field-0-is)

pub returns-in-About-Clearing-default : goal.returns-in-About-Clearing-default
returns-in-About-Clearing-default c =
    let a = c.in-About-Clearing-default in
    tabled-clearing _ _ _ a.is _ c.wide-in-About-Clearing-default.ensures.0 (rw a.is at a.field-0-is)

pub returns-in-NoReading : goal.returns-in-NoReading
returns-in-NoReading c = tabled-no-reading _ _ _ c.in-NoReading.is
