-- The rules of the book that are neither marked nor off go off.
use mathlib.Core.Path.{refl}
use Rattle.book.proofs.Places.{shape-count}
use Rattle.closing.proofs.Dropping.{unheld-marked, gone-off}
use Rattle.closing.proofs.unsupported.drop_unsupported.Goals as goal

pub returns : goal.returns
returns c =
    gone-off _ c.args.off.now.w c.join.new.self.w c.difference-rest.result.w
    (unheld-marked _ (shape-count _ _ c.args.book.now.read_as) c.args.off.now.w c.support.new.marks.w c.below.result.w c.difference.result.w _
    _ c.difference-rest.result.w c.below.ensures c.support.ensures c.difference.ensures refl c.difference-rest.ensures
    refl) c.join.ensures
