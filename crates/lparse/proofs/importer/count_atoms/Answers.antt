-- One atom more where a list had an entry.
use Rattle.lparse.proofs.Importing.{count-entry, count-plain}
use Rattle.lparse.proofs.importer.count_atoms.Goals as goal

pub returns-then-entry : goal.returns-then-entry
returns-then-entry c = λ k h. count-entry k h c.if-entry.true c.counted_on.ensures

pub returns : goal.returns
returns c = λ k h. count-plain k h c.if-entry.false
