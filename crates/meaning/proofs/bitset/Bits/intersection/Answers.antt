use borrow.Author.Rules.{rules}
use Rattle.meaning.proofs.Four.{words, each, members-and}
use Rattle.meaning.proofs.bitset.Bits.intersection.Goals as goal

pub returns : goal.returns
unfolding each
returns c =
    let a = c.args in
    members-and a.self.w a.other.w (words a.self.w (search rules) (λ n l. search rules)) (words a.other.w (search rules) (λ n l. search rules))
