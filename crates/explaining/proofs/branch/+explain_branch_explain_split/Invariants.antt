-- The bytes left, twice, and one more for a branch: they fall from a branch to its split, and from a split to each of its branches.
use Prim.Native.Nat.{◌+◌, ◌-◌}
use Rattle.explaining.proofs.branch.+explain_branch_explain_split.Given as goal

abbrev pub decreases-explain_branch : goal.decreases-explain_branch
decreases-explain_branch g l = (l.paper.now.trailer.from - l.at) + (l.paper.now.trailer.from - l.at) + 1

abbrev pub decreases-explain_split : goal.decreases-explain_split
decreases-explain_split g l = (l.paper.now.trailer.from - l.at) + (l.paper.now.trailer.from - l.at)
