use Prim.Native.Nat.{ℕ, ◌-◌}
use Rattle.meaning.specs.Bits.{members, listed, NextIn}
use Rattle.meaning.specs.Written.{of}
use Rattle.book.specs.Format.{book_in}
use Rattle.closing.specs.Clearing.{Swept}
use Rattle.closing.proofs.Raising.{onward}
use Rattle.closing.proofs.cleared.try_suspects.Given as goal

abbrev pub invariant-loop-r : goal.invariant-loop-r
invariant-loop-r l =
    ((from : ℕ) × NextIn (members l.cand.w) from l.r)
    × Swept (book_in l.rowed.book.bytes.now) (of (listed l.suspects.w)) (of (listed l.initial.held.w)) (of (listed l.cand.w)) (of (listed l.held.w)) (onward l.cand.w l.r) (of (listed l.woken.w))

abbrev pub decreases-loop-r : goal.decreases-loop-r
decreases-loop-r l = 256 - l.r
