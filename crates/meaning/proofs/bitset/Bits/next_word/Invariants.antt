use Prim.Native.Nat.{◌*◌}
use Rattle.meaning.specs.Bits.{members}
use Rattle.meaning.proofs.Next.{Passed}
use Rattle.meaning.proofs.bitset.Bits.next_word.Given as goal

abbrev pub invariant-loop-k : goal.invariant-loop-k
invariant-loop-k l = Passed (members l.self.w) (l.first * 64) (l.k * 64)
