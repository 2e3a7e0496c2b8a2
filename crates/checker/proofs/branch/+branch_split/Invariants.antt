-- The bytes left, twice, and one more for a branch: they fall from a branch to its split, and from a split to each of its branches.
use Prim.Native.Nat.{◌+◌, ◌-◌}
use Rattle.checker.proofs.branch.+branch_split.Given as goal

abbrev pub decreases-branch : goal.decreases-branch
decreases-branch l = (l.trailer.from - l.at) + (l.trailer.from - l.at) + 1

abbrev pub decreases-split : goal.decreases-split
decreases-split l = (l.trailer.from - l.at) + (l.trailer.from - l.at)
