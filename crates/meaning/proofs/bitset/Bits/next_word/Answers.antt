-- The words before word k have no member.
use native.Mathlib.Omega.{arith}
use Rattle.meaning.proofs.Next.{passed_none, passed-word, next_word, next-none}
use Rattle.meaning.proofs.bitset.Bits.next_word.Goals as goal

pub loop-k-init : goal.loop-k-init
loop-k-init c = passed_none _ _ _ (omega arith)

pub returns-then-x-ne0 : goal.returns-then-x-ne0
returns-then-x-ne0 c = next_word _ _ c.loop-k.k (omega arith) c.loop-k.invariant (omega arith) _ c.trailing.ensures

pub loop-k-preserved : goal.loop-k-preserved
loop-k-preserved c = passed-word _ _ c.loop-k.k (omega arith) c.loop-k.invariant (omega arith)

pub returns : goal.returns
returns c = next-none _ _ _ (omega arith) c.loop-k.invariant
