-- A step of one rule: its code, and the rule behind it.
use Rattle.writer.proofs.Drafts.{writes_then}
use Rattle.writer.proofs.draft.write_step.Goals as goal

pub returns : goal.returns
returns c = writes_then c.write-coded.ensures c.write.ensures
