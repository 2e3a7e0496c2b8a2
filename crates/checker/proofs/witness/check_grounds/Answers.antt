-- What is asked goes by the claim: the whole witness, or that its count is 0.
use native.Mathlib.Omega.{arith}
use Rattle.checker.proofs.PaperChecked.{grounds-about, grounds-some, grounds-none}
use Rattle.checker.proofs.witness.check_grounds.Goals as goal

pub returns-in-About : goal.returns-in-About
returns-in-About c = grounds-about _ _ _ _ _ c.in-About.is c.check_witness.ensures

pub returns-in-NoReading : goal.returns-in-NoReading
returns-in-NoReading c = grounds-some _ _ _ _ _ c.in-NoReading.is (λ z. omega arith)

pub returns-in-NoReading-2 : goal.returns-in-NoReading-2
returns-in-NoReading-2 c = grounds-none _ _ _ _ _ c.in-NoReading.is (omega arith)
