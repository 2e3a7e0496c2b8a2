-- One search over the negative atoms.
use mathlib.Core.Path.{◌∙◌}
use Rattle.book.proofs.Bodies.{some-part}
use Rattle.book.proofs.Places.{neg-below}
use Rattle.book.proofs.read.ReadBook.is_blocked.Goals as goal

pub some_in-requires : goal.some_in-requires
some_in-requires c =
    let n = c.args.self.now.small.0 in
    neg-below _ c.args.self.now.shape c.args.self.now.read_as c.args.r c.requires n _ c.negatives.ensures

pub returns : goal.returns
returns c = c.some_in.ensures ∙ some-part _ _ _ c.negatives.ensures
