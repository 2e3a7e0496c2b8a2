use native.Mathlib.Omega.{arith}
use Prim.Native.Nat.{◌-◌}
use lib.Pow.{pow_pos}
use Rattle.meaning.proofs.Words.{shl_one, ones_none, ones-all, ones-some}
use Rattle.meaning.proofs.bitset.ones.Goals as goal

pub returns-then-n-from : goal.returns-then-n-from
returns-then-n-from c = ones_none _ _ (omega arith)

pub returns-then-k-ge64 : goal.returns-then-k-ge64
returns-then-k-ge64 c = ones-all _ _ (omega arith)

pub overflow_sub-result : goal.overflow_sub-result
overflow_sub-result c =
    let a = c.args in
    rw (shl_one (a.n - a.from) (omega arith)) (pow_pos (a.n - a.from))

pub returns : goal.returns
returns c = let a = c.args in ones-some a.n a.from (a.n - a.from) (omega arith) (omega arith) (omega arith)
