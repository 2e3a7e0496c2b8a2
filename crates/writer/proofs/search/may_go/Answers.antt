-- The side that was taken tells which test it is.
use Rattle.writer.specs.Steps.{may_by}
use Rattle.writer.proofs.search.may_go.Goals as goal

pub returns-in-On : goal.returns-in-On
unfolding may_by
returns-in-On c = rw c.in-On.is c.goes_on.ensures

pub returns-in-Off : goal.returns-in-Off
unfolding may_by
returns-in-Off c = rw c.in-Off.is c.is_blocked.ensures
