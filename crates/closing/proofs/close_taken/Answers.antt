-- Each choice is closed as it may be.
use Rattle.closing.proofs.close_taken.Goals as goal

pub returns-in-On : goal.returns-in-On
returns-in-On c = rw c.in-On.is c.close_put.ensures

pub returns-in-Off : goal.returns-in-Off
returns-in-Off c = rw c.in-Off.is c.close_put-in-Off.ensures
