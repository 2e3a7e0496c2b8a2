use Prim.Native.Nat.{ℕ, ◌-◌}
use Rattle.meaning.specs.Bits.{members, listed, NextIn}
use Rattle.meaning.specs.Written.{of}
use Rattle.book.specs.Format.{book_in}
use Rattle.closing.specs.News.{atom_set, Raised}
use Rattle.closing.proofs.Raising.{onward}
use Rattle.closing.proofs.propagation.raise.Given as goal

abbrev pub invariant-loop-r : goal.invariant-loop-r
invariant-loop-r l =
    ((from : ℕ) × NextIn (members l.todo.w) from l.r)
    × Raised (book_in l.rowed.book.bytes.now) (of (listed l.off.w)) (of (listed l.todo.w)) (of (listed l.initial.on.w)) (atom_set l.initial.nt.w) (onward l.todo.w l.r) (of (listed l.on.w)) (atom_set l.nt.w)

abbrev pub decreases-loop-r : goal.decreases-loop-r
decreases-loop-r l = 256 - l.r
