-- More heads than the array holds are too many; else the rules for all heads are those for the array's.
use native.Mathlib.Omega.{arith}
use Rattle.lparse.proofs.HeadRules.{open-passed, open-added}
use Rattle.lparse.proofs.adding.add_open.Goals as goal

pub returns-then-count-gt255 : goal.returns-then-count-gt255
returns-then-count-gt255 c = λ k l ready. rw c.passed.ensures (open-passed _ _ _ ready (omega arith))

pub returns : goal.returns
returns c = λ k l ready. open-added _ _ _ ready (omega arith) c.add_heads.ensures
