-- All branches from the empty colouring, from the front of an empty draft.
use native.Mathlib.Omega.{arith}
use Rattle.writer.proofs.Answering.{blank, stage-blank, stage-paper}
use Rattle.writer.proofs.split.write_steps.Goals as goal

pub returns : goal.returns
returns c =
    stage-paper _ _ _ c.empty.ensures
    (c.write_branches.ensures blank (stage-blank c.requires.1) (omega arith))
