-- The first place at which the word stands, if there is one.
use native.Mathlib.Omega.{arith}
use Rattle.words.proofs.Names.{whose-atom, whose-nothing}
use Rattle.words.proofs.known.atom_named.Goals as goal

pub returns-then-i-n : goal.returns-then-i-n
returns-then-i-n c = whose-atom _ _ _ _ _ _ c.number_of-i.ensures.0 (omega arith)

pub returns : goal.returns
returns c = whose-nothing _ _ _ _ _ _ c.number_of-i.ensures.0 (omega arith)
