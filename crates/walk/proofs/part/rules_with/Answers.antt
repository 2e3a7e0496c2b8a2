-- The rules of the atoms below the one at which the search stands are gathered, and no others.
use native.Mathlib.Omega.{arith}
use Rattle.meaning.proofs.Next.{next-further}
use Rattle.meaning.proofs.Four.{members-nothing}
use Rattle.walk.proofs.Gathering.{gathered-start, gathered-turn, gathered-all}
use Rattle.walk.proofs.part.rules_with.Goals as goal

pub loop-i-init : goal.loop-i-init
loop-i-init c = gathered-start _ _ _ _ members-nothing c.next_in-i.ensures

pub loop-i-smaller : goal.loop-i-smaller
loop-i-smaller c = omega (arith, next-further _ _ _ c.next_in-i-in-loop-i.ensures (omega arith))

pub loop-i-preserved : goal.loop-i-preserved
loop-i-preserved c =
    gathered-turn _ _ _ c.loop-i.invariant (omega arith) _ _ c.head_row.ensures c.union-all.ensures c.next_in-i-in-loop-i.ensures

pub returns : goal.returns
returns c = gathered-all _ _ _ c.loop-i.invariant (omega arith)
