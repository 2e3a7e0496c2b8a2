-- Each rule of the list is one of the book.
use native.Mathlib.Omega.{arith}
use Rattle.explaining.proofs.witness.tell_listed.Goals as goal

pub tell_on-requires : goal.tell_on-requires
tell_on-requires g c = c.requires.0.at c.loop-i.i (omega arith)
