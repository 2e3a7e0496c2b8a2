-- The search of the rule's positive atoms, which the rows answer for.
use mathlib.Core.Path.{◌∙◌}
use Rattle.book.proofs.Asked.{pos-small}
use Rattle.book.proofs.Bodies.{every-part}
use Rattle.book.proofs.RuleRows.{every-headed}
use Rattle.nomore.proofs.choose.is_supported.Goals as goal

pub returns : goal.returns
returns c =
    let b = c.args.rowed.now.book in
    c.every_headed.ensures ∙ every-part _ _ _ c.positives.ensures
    ∙ every-headed _ _ c.args.rowed.now.rowed _ _ (pos-small _ b.shape b.read_as b.small.0 c.args.r c.requires)
