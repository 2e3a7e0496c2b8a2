-- `put_text` puts one byte a turn: what is left of the text then makes of the line what the whole text makes of it at first.
use Rattle.std.proofs.Common.{sym, ◌∙◌, arith}
use Rattle.listing.proofs.Gathering.{gather-turn, gather-end}
use Rattle.listing.proofs.rows.put_text.Goals as goal

pub loop-byte-preserved : goal.loop-byte-preserved
loop-byte-preserved c = c.loop-byte.invariant ∙ gather-turn _ c.loop-byte.byte-index _ _ (omega arith) c.byte.ensures

pub returns : goal.returns
returns c = sym (c.loop-byte.invariant ∙ gather-end _ c.loop-byte.byte-index _ (omega arith))
