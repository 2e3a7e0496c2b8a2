-- Where every reading counts, the events are those of the walk.
use mathlib.Core.Path.{◌∙◌, ap}
use Rattle.walk.specs.Run.{run}
use Rattle.walk.proofs.Fresh.{all-counted}
use Rattle.walk.proofs.kth.kth.Goals as goal

pub returns : goal.returns
returns c = c.walk_to.ensures ∙ ap (run _ _ _) (all-counted _ _ _)
