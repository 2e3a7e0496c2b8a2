-- Four stores one after the other; none changes the length.
use mathlib.Core.Path.{refl}
use native.Mathlib.Omega.{arith}
use lib.ListN.{length-set}
use Rattle.walk.specs.Memory.{stored}
use Rattle.walk.proofs.memory.store_words.Goals as goal

pub bounds-seen-at-2 : goal.bounds-seen-at-2
bounds-seen-at-2 c = rw length-set (omega (arith, c.requires))

pub bounds-seen-at-3 : goal.bounds-seen-at-3
bounds-seen-at-3 c = rw (length-set, length-set) (omega (arith, c.requires))

pub bounds-seen-at-4 : goal.bounds-seen-at-4
bounds-seen-at-4 c = rw (length-set, length-set, length-set) (omega (arith, c.requires))

pub returns : goal.returns
unfolding stored
returns c = refl
