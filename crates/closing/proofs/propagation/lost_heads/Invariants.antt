use mathlib.Core.Path.{◌≡◌}
use mathlib.Core.Bool.{◌&&◌}
use Prim.Native.Nat.{ℕ, ◌-◌}
use Rattle.meaning.specs.Bits.{members, listed, NextIn}
use Rattle.meaning.specs.Written.{of}
use Rattle.meaning.specs.Colours.{heads, all_in}
use Rattle.book.specs.Format.{book_in}
use Rattle.closing.specs.News.{atom_set}
use Rattle.closing.proofs.Stamping.{before}
use Rattle.closing.proofs.propagation.lost_heads.Given as goal

abbrev pub invariant-loop-r : goal.invariant-loop-r
invariant-loop-r l =
    ((from : ℕ) × NextIn (members l.fresh.w) from l.r)
    × (atom_set l.lost.w ≡ (λ a. heads (book_in l.rowed.book.bytes.now) (before (of (listed l.fresh.w)) l.r) a && all_in (book_in l.rowed.book.bytes.now) (of (listed l.off.w)) a))

abbrev pub decreases-loop-r : goal.decreases-loop-r
decreases-loop-r l = 256 - l.r
