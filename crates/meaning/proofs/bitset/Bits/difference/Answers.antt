use borrow.Author.Rules.{rules}
use Rattle.meaning.proofs.Four.{words, each, members-less}
use Rattle.meaning.proofs.bitset.Bits.difference.Goals as goal

pub returns : goal.returns
unfolding each
returns c =
    let a = c.args in
    members-less a.self.w a.other.w (words a.self.w (search rules) (λ n l. search rules)) (words a.other.w (search rules) (λ n l. search rules))
