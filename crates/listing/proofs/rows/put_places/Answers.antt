-- `put_places` puts one place a turn: what is left of the row then makes of the line what the whole row makes of it at first.
use Rattle.std.proofs.Common.{sym, ◌∙◌, arith}
use Rattle.listing.proofs.Lines.{places-turn, places-end}
use Rattle.listing.proofs.rows.put_places.Goals as goal

pub loop-a-preserved : goal.loop-a-preserved
loop-a-preserved c = c.loop-a.invariant ∙ places-turn _ _ c.loop-a.a _ _ (omega arith) c.put_place.ensures

pub returns : goal.returns
returns c = sym (c.loop-a.invariant ∙ places-end _ _ c.loop-a.a _ (omega arith))
