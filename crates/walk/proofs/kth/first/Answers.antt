-- The rows made are those of the book.
use native.Mathlib.Omega.{arith}
use Rattle.walk.proofs.kth.first.Goals as goal

pub kth-requires : goal.kth-requires
kth-requires c = (omega arith, omega (arith, c.of.result.book.small.0))

pub returns : goal.returns
returns c = rw c.of.ensures at c.kth.ensures
