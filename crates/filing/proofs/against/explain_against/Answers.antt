-- `explain_against` lends as many bytes of the row as the book has atoms, which are at most 255.
use mathlib.Core.Path.{sym}
use native.Mathlib.Omega.{arith}
use lib.Seq.{length-take-le}
use Rattle.filing.proofs.against.explain_against.Goals as goal

pub slice_bounds-tell_against-end : goal.slice_bounds-tell_against-end
slice_bounds-tell_against-end g c = sym (length-take-le _ _ (omega arith))
