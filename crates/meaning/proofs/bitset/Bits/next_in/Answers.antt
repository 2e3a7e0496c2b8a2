-- The rest of the word in which `from` stands, and then the words behind it.
use native.Mathlib.Omega.{arith}
use borrow.Author.Rules.{rules}
use Rattle.meaning.proofs.Four.{words}
use Rattle.meaning.proofs.Next.{passed_none, passed-next, passed-rest, next_here, next-none}
use Rattle.meaning.proofs.bitset.Bits.next_in.Goals as goal

pub returns-then-from-ge256 : goal.returns-then-from-ge256
returns-then-from-ge256 c = next-none _ _ 256 (omega arith) (passed_none _ _ _ (omega arith))

pub returns-then-x-ne0 : goal.returns-then-x-ne0
returns-then-x-ne0 c =
    next_here _ _ (omega arith) (words c.args.self.now.w (search rules) (λ n l. search rules)) _ c.trailing.ensures

pub returns : goal.returns
returns c = passed-next _ _ _ _ (passed-rest _ _ (omega arith) (omega arith)) (omega arith) c.next_word.ensures
