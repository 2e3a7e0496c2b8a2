-- `put_part` puts the part where its places are in order, and within the text.
use mathlib.Core.Path.{sym, ◌∙◌}
use native.Mathlib.Omega.{arith}
use Rattle.calling.proofs.Rows.{part-crossed, part-over, part-rowed}
use Rattle.calling.proofs.names.put_part.Goals as goal

pub returns-then-end-from : goal.returns-then-end-from
returns-then-end-from c = sym (part-crossed _ _ _ _ _ (omega arith))

pub returns-then-text-end : goal.returns-then-text-end
returns-then-text-end c = sym (part-over _ _ _ _ _ (omega arith) (omega arith))

pub returns : goal.returns
returns c = c.put_row.ensures ∙ sym (part-rowed _ _ _ _ _ (omega arith) (omega arith))
