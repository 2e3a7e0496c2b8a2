-- Nothing is made, and nothing passed the limits.
use mathlib.Core.Path.{refl}
use Rattle.book.proofs.Made.{made_none}
use Rattle.book.proofs.making.Making.nothing.Goals as goal

pub returns : goal.returns
returns c = λ d h. made_none _ d refl h
