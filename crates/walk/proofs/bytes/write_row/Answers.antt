-- A row written: its first a bytes stand in the buffer, and all others are those from before.
use mathlib.Core.Path.{◌∙◌}
use native.Mathlib.Omega.{arith}
use lib.ListN.{length-set}
use lib.Seq.{paste-zero}
use borrow.Author.Rules.{rules}
use Rattle.walk.proofs.RowBytes.{byte-of, row-turn, row_written}
use Rattle.walk.proofs.bytes.write_row.Goals as goal

pub loop-a-init : goal.loop-a-init
loop-a-init c = search (rules, paste-zero)

pub loop-a-preserved : goal.loop-a-preserved
loop-a-preserved c = (
  length-set c.loop-a.out _ _ ∙ c.loop-a.invariant.0,
  row-turn _ _ _ _ c.requires (omega arith) (c.from.ensures ∙ byte-of _) c.loop-a.invariant.1,
)

pub returns : goal.returns
returns c = search (rules, row_written)
