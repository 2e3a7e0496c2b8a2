-- The case that was taken tells the claim.
use Rattle.checker.proofs.PaperChecked.{stated-about, stated-nothing}
use Rattle.checker.proofs.trailer.is_stated.Goals as goal

pub returns-in-About : goal.returns-in-About
returns-in-About c = stated-about _ _ _ c.in-About.is

pub returns-in-NoReading : goal.returns-in-NoReading
returns-in-NoReading c = stated-nothing _ _ _ c.in-NoReading.is
