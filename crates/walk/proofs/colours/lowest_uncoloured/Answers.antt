-- The lowest member of what is left of the rules without the two sets.
use mathlib.Core.Path.{◌∙◌}
use Rattle.walk.proofs.Searches.{free-lowest}
use Rattle.walk.proofs.colours.lowest_uncoloured.Goals as goal

pub returns : goal.returns
returns c =
    let a = c.args in
    c.lowest_in.ensures
    ∙ free-lowest a.rules _ _ _ a.on.w a.off.w c.below.ensures c.union.ensures c.difference.ensures
