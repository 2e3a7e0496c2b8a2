-- The atoms below the one at which the search stands have a rule that is not off.
use native.Mathlib.Omega.{arith}
use Rattle.meaning.proofs.Next.{next-further}
use Rattle.walk.proofs.Gathering.{swept-start, lost-found, lost-turn, lost-none}
use Rattle.walk.proofs.part.is_lost_in.Goals as goal

pub loop-i-init : goal.loop-i-init
loop-i-init c = swept-start _ _ _ c.next_in-i.ensures

pub returns-then-is_within : goal.returns-then-is_within
returns-then-is_within c =
    lost-found _ _ _ c.loop-i.invariant (omega arith) _ c.head_row.ensures c.is_within.ensures c.if-is_within.true

pub loop-i-smaller : goal.loop-i-smaller
loop-i-smaller c = omega (arith, next-further _ _ _ c.next_in-i-in-loop-i.ensures (omega arith))

pub loop-i-preserved : goal.loop-i-preserved
loop-i-preserved c =
    lost-turn _ _ _ c.loop-i.invariant _ c.head_row.ensures c.is_within.ensures c.if-is_within.false
    c.next_in-i-in-loop-i.ensures

pub returns : goal.returns
returns c = lost-none _ _ _ c.loop-i.invariant (omega arith)
