use Prim.Native.Nat.{◌-◌}
use Rattle.book.specs.Format.{book_in}
use Rattle.nomore.proofs.Choosing.{Come}
use Rattle.nomore.proofs.choose.lowest_supported.Given as goal

abbrev pub invariant-loop-r : goal.invariant-loop-r
invariant-loop-r l = Come (book_in l.rowed.book.bytes.now) l.free.w l.on.w l.r

abbrev pub decreases-loop-r : goal.decreases-loop-r
decreases-loop-r l = 256 - l.r
