-- `put_text` stores the whole word at once.
use native.Mathlib.Omega.{arith}
use Rattle.aspif.proofs.Onward.{stored-copied}
use Rattle.aspif.proofs.lines.put_text.Goals as goal

pub returns : goal.returns
returns c = stored-copied c.args.word.now c.args.out.now _ c.args.at c.requires c.copy_from_slice.ensures.after (omega arith)
