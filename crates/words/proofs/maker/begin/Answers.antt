-- The code begins with the first state, and nothing is made.
use mathlib.Core.Path.{refl}
use Rattle.words.specs.Make.{filled}
use Rattle.words.proofs.maker.begin.Goals as goal

pub returns : goal.returns
unfolding filled
returns c = (refl, c.nothing-making.ensures)
