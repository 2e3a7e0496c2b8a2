-- The search among the rules without a colour: what is kept is Come, and each return is one of its ends.
use native.Mathlib.Omega.{arith}
use Rattle.nomore.proofs.Choosing.{come-found, come-none}
use Rattle.nomore.proofs.choose.lowest_supported.Goals as goal

pub returns-then-is_supported : goal.returns-then-is_supported
returns-then-is_supported c =
    come-found _ _ _ _ _ _ _ c.below.ensures c.union.ensures c.difference-free.ensures
    _ c.loop-r.invariant (omega arith) c.is_supported.ensures c.if-is_supported.true

pub returns : goal.returns
returns c =
    come-none _ _ _ _ _ _ _ c.below.ensures c.union.ensures c.difference-free.ensures
    _ c.loop-r.invariant (omega arith) (omega (arith, c.args.rowed.now.book.small.1))
