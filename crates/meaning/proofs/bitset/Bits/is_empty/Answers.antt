use borrow.Author.Rules.{rules}
use Rattle.meaning.proofs.Four.{words, any-member}
use Rattle.meaning.proofs.bitset.Bits.is_empty.Goals as goal

pub returns : goal.returns
returns c = any-member c.args.self.w (words c.args.self.w (search rules) (λ n l. search rules))
