-- The two searches, one after the other: the second decides where the first holds.
use mathlib.Core.Path.{sym, ◌∙◌}
use Rattle.meaning.proofs.Tests.{not_first}
use Rattle.book.proofs.Bodies.{every-part, then-decides}
use Rattle.book.proofs.Places.{pos-below, neg-below}
use Rattle.book.proofs.read.ReadBook.goes_on.Goals as goal

pub every_in-requires : goal.every_in-requires
every_in-requires c =
    let n = c.args.self.now.small.0 in
    pos-below _ c.args.self.now.shape c.args.self.now.read_as c.args.r c.requires n _ c.positives.ensures

pub every_in-requires-then-every_in : goal.every_in-requires-then-every_in
every_in-requires-then-every_in c =
    let n = c.args.self.now.small.0 in
    neg-below _ c.args.self.now.shape c.args.self.now.read_as c.args.r c.requires n _ c.negatives.ensures

pub returns-then-every_in : goal.returns-then-every_in
returns-then-every_in c =
    then-decides
    (sym (c.every_in.ensures ∙ every-part _ _ _ c.positives.ensures) ∙ c.if-every_in.true)
    (c.every_in-then-every_in.ensures ∙ every-part _ _ _ c.negatives.ensures)

pub returns-else-every_in : goal.returns-else-every_in
returns-else-every_in c =
    c.if-every_in.false
    ∙ sym (not_first _ (sym (c.every_in.ensures ∙ every-part _ _ _ c.positives.ensures) ∙ c.if-every_in.false))
