use native.Mathlib.Omega.{arith}
use Rattle.meaning.proofs.Four.{members-below}
use Rattle.meaning.proofs.bitset.Bits.below.Goals as goal

pub returns : goal.returns
returns c =
    members-below _ _ _ _ _ (omega arith) c.ones.ensures c.ones-2.ensures
    c.ones-3.ensures c.ones-4.ensures
