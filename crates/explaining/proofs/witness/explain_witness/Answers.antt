-- A witness that is right lists rules of the book only.
use borrow.Author.Rules.{rules}
use native.Mathlib.Omega.{arith}
use mathlib.Core.Path.{sym}
use Rattle.book.proofs.Places.{shape-count}
use Rattle.checker.proofs.Lists.{part-is, below_more}
use Rattle.checker.proofs.WitnessChecked.{witness-below}
use Rattle.explaining.proofs.witness.explain_witness.Goals as goal

pub tell_witness-requires : goal.tell_witness-requires
tell_witness-requires g c = (
  rw (part-is _ _ _) (below_more (omega (arith, shape-count _ _ c.args.paper.now.book.read_as)) (witness-below _ _ _ _ (sym c.in-Ok.ensures))),
  search rules,
)
