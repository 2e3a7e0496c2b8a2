-- The lowest member of what both sets have.
use mathlib.Core.Path.{ap, ◌∙◌}
use Rattle.meaning.specs.Books.{Rules}
use Rattle.meaning.specs.Lowest.{lowest_from}
use Rattle.closing.proofs.Searches.{both-listed}
use Rattle.closing.proofs.clash.lowest_clash.Goals as goal

pub returns : goal.returns
returns c =
    let s = c.args in
    c.lowest_in.ensures ∙ ap (λ (r : Rules). lowest_from 0 s.rules r) (both-listed _ s.on.w s.off.w c.intersection.ensures)
