-- The two searches, one after the other: the second decides where the first holds. The atoms of a good book are bytes, so the rows answer
-- for each.
use mathlib.Core.Path.{sym, ◌∙◌}
use Rattle.meaning.specs.Colours.{may_on}
use Rattle.meaning.proofs.Tests.{not_first}
use Rattle.book.proofs.Asked.{pos-small, neg_small}
use Rattle.book.proofs.Bodies.{every-part, then-decides}
use Rattle.book.proofs.RuleRows.{every-headed, every-lost}
use Rattle.book.proofs.rowed.RowedBook.may_go_on.Goals as goal

pub returns-then-every_headed : goal.returns-then-every_headed
unfolding may_on
returns-then-every_headed c =
    let n = c.args.self.now.book.small.0 in
    then-decides
    (sym
    (c.every_headed.ensures ∙ every-part _ _ _ c.positives.ensures
    ∙ every-headed _ _ c.args.self.now.rowed _ _ (pos-small _ c.args.self.now.book.shape c.args.self.now.book.read_as n c.args.r c.requires))
    ∙ c.if-every_headed.true)
    (c.every_lost.ensures ∙ every-part _ _ _ c.negatives.ensures
    ∙ every-lost _ _ c.args.self.now.rowed _ _ (neg_small _ c.args.self.now.book.shape c.args.self.now.book.read_as n c.args.r c.requires))

pub returns-else-every_headed : goal.returns-else-every_headed
unfolding may_on
returns-else-every_headed c =
    let n = c.args.self.now.book.small.0 in
    c.if-every_headed.false
    ∙ sym
    (not_first _
    (sym
    (c.every_headed.ensures ∙ every-part _ _ _ c.positives.ensures
    ∙ every-headed _ _ c.args.self.now.rowed _ _ (pos-small _ c.args.self.now.book.shape c.args.self.now.book.read_as n c.args.r c.requires))
    ∙ c.if-every_headed.false))
