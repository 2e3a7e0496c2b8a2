-- The case that was taken tells the kind.
use mathlib.Core.Path.{sym, ◌∙◌, ap}
use Rattle.meaning.specs.Claim.{mark_of}
use Rattle.meaning.proofs.Marks.{mark-of-naming, mark-of-clearing}
use Rattle.meaning.proofs.kind.Kind.mark.Goals as goal

pub returns-in-Naming : goal.returns-in-Naming
returns-in-Naming c = sym (ap mark_of c.in-Naming.is ∙ mark-of-naming)

pub returns-in-Clearing : goal.returns-in-Clearing
returns-in-Clearing c = sym (ap mark_of c.in-Clearing.is ∙ mark-of-clearing)
