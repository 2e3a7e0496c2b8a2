-- The levels written: they stand at the front of the buffer, and all other bytes are those from before.
use native.Mathlib.Omega.{arith}
use Rattle.walk.proofs.Leveled.{levels-written}
use Rattle.walk.proofs.descent.write_levels.Goals as goal

pub returns : goal.returns
returns c = levels-written _ _ _ (omega (arith, c.requires.1, c.ranges.rules)) c.copy_from_slice.ensures.after
