-- The paper's walk: one branch, then behind its split the two walks, each on fewer rules without a colour.
use native.Mathlib.Omega.{arith}
use Rattle.meaning.specs.Colours.{on_side, off_side}
use Rattle.closing.proofs.Good.{good-book, good-few}
use Rattle.writer.proofs.Drafting.{stage-over, stage-stopped, stage-ended, stage-unsettled, stage-parted}
use Rattle.writer.proofs.Drafting.{part-on, part_off, part-fewer}
use Rattle.writer.proofs.split.+write_branches.Goals as goal

pub returns-in_default : goal.returns-in_default
returns-in_default μ c = λ s g l. stage-over g c.in_default.not-Writing _ _

pub returns-then-limit-p : goal.returns-then-limit-p
returns-then-limit-p μ c = λ s g l. stage-stopped _ _ (good-few (good-book c.args.book.now)) _ _ g c.in-Writing.is (omega arith) l

pub write_branches-first-requires : goal.write_branches-first-requires
write_branches-first-requires μ c =
    let few = good-few (good-book c.args.book.now) in
    let e = part-on _ c.args.claim few _ c.write_branch-here.ensures c.in-Parted.is c.with.ensures in
    let f = part-fewer _ c.args.claim few _ c.write_branch-here.ensures c.in-Parted.is on_side _ e in
    (omega (arith, c.decreases), c.requires)

pub write_branches-requires : goal.write_branches-requires
write_branches-requires μ c =
    let few = good-few (good-book c.args.book.now) in
    let e = part_off _ c.args.claim few _ c.write_branch-here.ensures c.in-Parted.is c.with-in-Parted.ensures in
    let f = part-fewer _ c.args.claim few _ c.write_branch-here.ensures c.in-Parted.is off_side _ e in
    (omega (arith, c.decreases), c.requires)

pub returns-in-Ended : goal.returns-in-Ended
returns-in-Ended μ c = λ s g l.
    stage-ended _ _ (good-few (good-book c.args.book.now)) _ _ g c.in-Writing.is (omega arith) c.write_branch-here.ensures c.in-Ended.is

pub returns-in-Unsettled : goal.returns-in-Unsettled
returns-in-Unsettled μ c = λ s g l.
    stage-unsettled _ _ (good-few (good-book c.args.book.now)) _ _ g c.in-Writing.is (omega arith) c.write_branch-here.ensures
    c.in-Unsettled.is

pub returns-in-Parted : goal.returns-in-Parted
returns-in-Parted μ c = λ s g l.
    let few = good-few (good-book c.args.book.now) in
    let on = part-on _ c.args.claim few _ c.write_branch-here.ensures c.in-Parted.is c.with.ensures in
    let off = part_off _ c.args.claim few _ c.write_branch-here.ensures c.in-Parted.is c.with-in-Parted.ensures in
    stage-parted _ _ few _ _ g c.in-Writing.is (omega arith) c.write_branch-here.ensures c.in-Parted.is on off l
    c.write_branches-first.ensures c.write_branches.ensures
