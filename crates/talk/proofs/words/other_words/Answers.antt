-- `other_words` gives what stands behind the space that the search finds, and nothing where it finds none.
use mathlib.Core.Path.{refl}
use native.Mathlib.Omega.{arith}
use Rattle.talk.proofs.Parting.{no-other-part, other-part}
use Rattle.talk.proofs.words.other_words.Goals as goal

pub returns-then-end-line : goal.returns-then-end-line
returns-then-end-line c =
    no-other-part c.args.line.now _ c.find-end.ensures.value (omega arith)

pub returns : goal.returns
returns c =
    other-part c.args.line.now _ c.find-end.ensures.value _ refl
