-- The members below the one at which the search stands have the level, and all else is as it was.
use mathlib.Core.Path.{◌∙◌}
use Prim.Native.Nat.{◌<◌}
use native.Mathlib.Omega.{arith}
use lib.ListN.{length-set}
use Rattle.closing.proofs.Stamping.{stamp-start, stamp-turn, stamp-end}
use Rattle.closing.proofs.levels.stamp.Goals as goal

pub loop-r-init : goal.loop-r-init
loop-r-init c =
    ((0, c.next_in-r.ensures), c.requires, stamp-start c.args.rules c.args.level c.args.new.now.w c.args.levels.now _ c.next_in-r.ensures)

pub loop-r-preserved : goal.loop-r-preserved
loop-r-preserved c =
    let h : c.loop-r.r < 255 = omega (arith, c.ranges.rules.fits) in
    let (from, n) = c.loop-r.invariant.0 in (
      (_, c.next_in-r-in-loop-r.ensures),
      length-set c.loop-r.levels _ _ ∙ c.loop-r.invariant.1,
      stamp-turn c.args.rules c.args.level c.args.new.now.w c.args.levels.now from c.loop-r.r _ n (omega arith) c.next_in-r-in-loop-r.ensures
          (omega arith) (omega (arith, c.requires)) c.loop-r.invariant.2,
    )

pub returns : goal.returns
returns c =
    stamp-end c.args.rules c.args.level c.args.new.now.w c.args.levels.now c.loop-r.r (omega arith) c.loop-r.invariant.2
