use Prim.Native.Nat.{ℕ, ◌-◌}
use Rattle.meaning.specs.Bits.{members, NextIn}
use Rattle.book.specs.Format.{book_in}
use Rattle.closing.proofs.Suspecting.{NoneFree}
use Rattle.closing.proofs.suspected.has_free.Given as goal

abbrev pub invariant-loop-r : goal.invariant-loop-r
invariant-loop-r l = ((from : ℕ) × NextIn (members l.set.w) from l.r) × NoneFree (book_in l.book.bytes.now) l.set.w l.r

abbrev pub decreases-loop-r : goal.decreases-loop-r
decreases-loop-r l = 256 - l.r
