-- What a tally tells: each way it may halt is one case of what is told.
use Rattle.walk.specs.Page.{ended_by}
use Rattle.walk.proofs.pages.tell.Goals as goal

pub returns-in-Going : goal.returns-in-Going
unfolding ended_by
returns-in-Going c = rw c.in-Going.is

pub returns-in-Full : goal.returns-in-Full
unfolding ended_by
returns-in-Full c = rw c.in-Full.is

pub returns-in-Limit : goal.returns-in-Limit
unfolding ended_by
returns-in-Limit c = rw c.in-Limit.is
