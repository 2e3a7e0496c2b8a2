-- `number` gathers the digits that `decimal` puts down, which are as many as the number takes.
use Rattle.talk.proofs.Gathered.{number-gathered}
use Rattle.talk.proofs.line.Line.number.Goals as goal

pub returns : goal.returns
returns c k h = number-gathered _ _ _ _ _ _ c.decimal-count.ensures.len h c.decimal-count.ensures.digits c.text.ensures
