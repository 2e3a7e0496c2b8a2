use mathlib.Core.Path.{◌≡◌}
use Prim.Native.Nat.{ℕ, ◌-◌}
use lib.ListN.{length}
use Rattle.meaning.specs.Bits.{members, listed, NextIn}
use Rattle.meaning.specs.Written.{of, stamp_from}
use Rattle.closing.proofs.Stamping.{before}
use Rattle.closing.proofs.levels.stamp.Given as goal

abbrev pub invariant-loop-r : goal.invariant-loop-r
invariant-loop-r l =
    ((from : ℕ) × NextIn (members l.new.w) from l.r) × (length l.levels ≡ 255)
    × (l.levels ≡ stamp_from 0 l.rules (before (of (listed l.new.w)) l.r) l.level l.initial.levels)

abbrev pub decreases-loop-r : goal.decreases-loop-r
decreases-loop-r l = 256 - l.r
