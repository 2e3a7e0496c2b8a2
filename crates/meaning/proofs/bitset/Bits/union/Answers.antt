use borrow.Author.Rules.{rules}
use Rattle.meaning.proofs.Four.{words, each, members-union}
use Rattle.meaning.proofs.bitset.Bits.union.Goals as goal

pub returns : goal.returns
unfolding each
returns c =
    let a = c.args in
    members-union a.self.w a.other.w (words a.self.w (search rules) (λ n l. search rules)) (words a.other.w (search rules) (λ n l. search rules))
