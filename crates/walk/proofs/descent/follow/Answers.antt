-- The choice that a row's set makes, by the test on its rule.
use Rattle.walk.proofs.Descending.{follow-on, follow-off}
use Rattle.walk.proofs.descent.follow.Goals as goal

pub returns-then-generates : goal.returns-then-generates
returns-then-generates c = follow-on _ c.generates.ensures c.if-generates.true

pub returns-else-generates : goal.returns-else-generates
returns-else-generates c = follow-off _ c.generates.ensures c.if-generates.false
