-- `hand_over` hands the draft's text over, or nothing where it is too long.
use native.Mathlib.Omega.{arith}
use Rattle.aspif.proofs.Answering.{hand-short, hand-given}
use Rattle.aspif.proofs.write.hand_over.Goals as goal

pub returns-then-out-n : goal.returns-then-out-n
returns-then-out-n c =
    hand-short _ _ _ c.requires (omega arith)

pub returns : goal.returns
returns c =
    hand-given _ _ _ c.requires (omega arith) c.copy_front.ensures
