-- The last step of a branch, by the three ways that it ends.
use Rattle.writer.proofs.Drafts.{writes-nil}
use Rattle.writer.proofs.branch.write_tip.Goals as goal

pub returns-in-Ended : goal.returns-in-Ended
returns-in-Ended c = rw c.in-Ended.is c.write.ensures

pub returns-in-Parted : goal.returns-in-Parted
returns-in-Parted c =
    rw c.in-Parted.is c.write_step.ensures

pub returns-in-Unsettled : goal.returns-in-Unsettled
returns-in-Unsettled c = rw c.in-Unsettled.is (writes-nil _ _)
