-- `name_of` gives the part of the row before the zero that the search finds.
use mathlib.Core.Path.{sym}
use native.Mathlib.Omega.{arith}
use Rattle.talk.proofs.Names.{no_row, name-part}
use Rattle.talk.proofs.name.name_of.Goals as goal

pub returns-then-names-from : goal.returns-then-names-from
returns-then-names-from c = sym (no_row _ _ (omega arith))

pub returns : goal.returns
returns c = name-part _ _ _ (omega arith) c.find-end.ensures.value c.find-end.ensures.bound.1
