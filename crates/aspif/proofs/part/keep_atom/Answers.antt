-- `keep_atom` stores one atom more, or says that it is beyond the table.
use native.Mathlib.Omega.{arith}
use Rattle.aspif.proofs.Gathered.{held-beyond, held_more}
use Rattle.aspif.proofs.part.keep_atom.Goals as goal

pub returns-then-value-gt255 : goal.returns-then-value-gt255
returns-then-value-gt255 c = λ l h. held-beyond l _ (omega arith) (omega arith) h

pub returns : goal.returns
returns c = λ l h. held_more l _ (omega arith) (omega arith) h
