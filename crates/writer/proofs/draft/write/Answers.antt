-- One byte: stored where the array has room, else only counted.
use Rattle.writer.proofs.Drafts.{write-stored, write-counted}
use native.Mathlib.Omega.{arith}
use Rattle.writer.proofs.draft.write.Goals as goal

pub returns-then-at-lt-PAPER_BYTES : goal.returns-then-at-lt-PAPER_BYTES
returns-then-at-lt-PAPER_BYTES c = write-stored _ _ _ (omega arith)

pub returns : goal.returns
returns c = write-counted _ _ _ (omega arith)
