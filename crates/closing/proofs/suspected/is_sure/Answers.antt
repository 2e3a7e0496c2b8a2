-- The live rules of the atom's row are asked for a free one.
use mathlib.Core.Path.{refl}
use borrow.Author.Rules.{rules}
use Rattle.closing.proofs.Suspecting.{sure-asked}
use Rattle.closing.proofs.suspected.is_sure.Goals as goal

pub returns : goal.returns
returns c =
    sure-asked _ c.args.rowed.now.rows c.args.rowed.now.rowed c.args.a (search rules) c.args.off.now.w c.difference-live.result.w c.head_row.result.w _
    c.difference-live.ensures c.head_row.ensures refl c.has_free.ensures
