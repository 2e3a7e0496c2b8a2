-- Where every reading counts, the events are those of the walk, and nothing is asked of the memory.
use mathlib.Core.Path.{refl, ◌∙◌, ap}
use Rattle.meaning.proofs.Tests.{true-and-false}
use Rattle.walk.specs.Run.{run}
use Rattle.walk.proofs.Fresh.{all-counted}
use Rattle.walk.proofs.walk.walk.Goals as goal

pub walk_shown-requires : goal.walk_shown-requires
walk_shown-requires c =
    (c.requires.0, c.requires.1, record { kept = λ e. true-and-false refl e }, c.requires.2)

pub returns : goal.returns
returns c =
    c.walk_shown.ensures.0 ∙ ap (run _ _ _) (all-counted _ _ _)
