-- The paper handed over: refused where the buffer or a paper has no room for it, else copied.
use native.Mathlib.Omega.{arith}
use Rattle.writer.proofs.Handing.{hand-small, hand-passed, hand-copied}
use Rattle.writer.proofs.hand_over.hand_over.Goals as goal
use Rattle.writer.proofs.hand_over.hand_over.Goals.{then-paper-n-via-then-paper-n, then-paper-n-via-else-paper-n+then-n-gt-PAPER_BYTES}

pub returns-then-paper-n : goal.returns-then-paper-n
returns-then-paper-n c = λ whole s. elim c.then-paper-n.branch [
  | then-paper-n-via-then-paper-n w ↦ hand-small _ _ s (omega arith)
  | then-paper-n-via-else-paper-n+then-n-gt-PAPER_BYTES w ↦ hand-passed _ _ s (omega arith)
]

pub returns : goal.returns
returns c = λ whole s. hand-copied _ _ s (omega arith) (omega arith) c.copy_from_slice.ensures.after
