-- The two sets are row 0 of the eight words.
use borrow.Author.Rules.{rules}
use Rattle.walk.proofs.ToldClash.{origin-kept}
use Rattle.walk.proofs.origin.keep_origin.Goals as goal

pub returns : goal.returns
returns c =
    origin-kept _ _ _ _ (search rules) (search rules) (search rules) c.keep.ensures
