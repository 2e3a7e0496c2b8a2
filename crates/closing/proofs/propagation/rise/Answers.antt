-- The rule is put in on, and its head is noted unless it was true before.
use mathlib.Core.Path.{◌∙◌}
use native.Mathlib.Omega.{arith}
use Rattle.meaning.specs.Bits.{listed}
use Rattle.meaning.specs.Written.{of}
use Rattle.book.proofs.RuleRows.{headed-by}
use Rattle.closing.specs.News.{atom_set}
use Rattle.closing.proofs.Good.{good-book, good-in, head-low}
use Rattle.closing.proofs.Raising.{noted-true}
use Rattle.closing.proofs.propagation.rise.Goals as goal

pub returns : goal.returns
returns c =
    let g = good-book c.args.rowed.now.book in
    let low = head-low g c.args.r (good-in g c.args.r c.requires) c.head-a.result c.head-a.ensures in (
      c.put.ensures,
      noted-true _ c.args.r (of (listed c.args.on.now.w)) (atom_set c.args.nt.now.w) c.head-a.result c.is_headed.result c.head-a.ensures
          (c.is_headed.ensures ∙ headed-by _ c.args.rowed.now.rows c.args.rowed.now.rowed c.args.on.now.w c.head-a.result (omega arith)) c.note.ensures,
    )
