use mathlib.Core.Path.{◌≡◌}
use Prim.Native.Nat.{◌%◌}
use native.Mathlib.Omega.{arith}
use lib.ListN.{length}
use Rattle.meaning.proofs.Words.{shl_one}
use Rattle.meaning.proofs.Four.{stored, members-put}
use Rattle.meaning.proofs.Listed.{listed-put}
use borrow.Author.Rules.{rules}
use Rattle.meaning.proofs.bitset.Bits.put.Goals as goal

pub returns : goal.returns
unfolding stored
returns c =
    let a = c.args in
    let long : length a.self.now.w ≡ 4 = search rules in
    rw (shl_one (a.i % 64) (omega arith)) (listed-put (stored a.self.now.w a.i) a.self.now.w a.i (omega arith) (members-put a.self.now.w a.i long (omega arith)))
