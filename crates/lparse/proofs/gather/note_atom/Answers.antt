-- One atom: there are too many already, it is old, it is one too many, or it is stored.
use native.Mathlib.Omega.{arith}
use Rattle.lparse.proofs.Noting.{stands-there, stands-not, note-passed, note-old, note-full, note-new}
use Rattle.lparse.proofs.gather.note_atom.Goals as goal

pub returns-then-n-gt255 : goal.returns-then-n-gt255
returns-then-n-gt255 c = note-passed _ _ _ (omega arith)

pub returns-then-contains : goal.returns-then-contains
returns-then-contains c = note-old _ _ _ (omega arith) (stands-there _ _ c.contains.ensures.value c.if-contains.true)

pub returns-then-n-eq255 : goal.returns-then-n-eq255
returns-then-n-eq255 c = note-full _ _ _ c.if-n-eq255.true (stands-not _ _ c.contains.ensures.value c.if-contains.false)

pub returns : goal.returns
returns c = note-new _ _ _ (omega arith) (stands-not _ _ c.contains.ensures.value c.if-contains.false)
