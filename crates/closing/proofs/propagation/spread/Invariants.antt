use mathlib.Core.Path.{◌≡◌}
use Prim.Native.Nat.{ℕ, ◌-◌}
use Rattle.meaning.specs.Bits.{plus, members, NextIn}
use Rattle.closing.specs.News.{rows_below}
use Rattle.closing.proofs.propagation.spread.Given as goal

abbrev pub invariant-loop-a : goal.invariant-loop-a
invariant-loop-a l =
    ((from : ℕ) × NextIn (members l.atoms.w) from l.a)
    × (members l.by_neg.w ≡ plus (members l.initial.by_neg.w) (rows_below l.rowed.rows 512 (members l.atoms.w) l.a))
    × (members l.by_pos.w ≡ plus (members l.initial.by_pos.w) (rows_below l.rowed.rows 256 (members l.atoms.w) l.a))

abbrev pub decreases-loop-a : goal.decreases-loop-a
decreases-loop-a l = 256 - l.a
