-- The rule's head is noted if all its rules are off.
use mathlib.Core.Path.{ap, fun_ext, ◌∙◌}
use mathlib.Core.Bool.{◌&&◌, ◌||◌}
use native.Mathlib.Omega.{arith}
use Rattle.meaning.specs.declared.AtomNo.{AtomNo}
use Rattle.meaning.specs.Books.{same_atom}
use Rattle.meaning.specs.Bits.{listed}
use Rattle.meaning.specs.Written.{of}
use Rattle.meaning.specs.Colours.{all_in}
use Rattle.book.specs.Format.{book_in}
use Rattle.book.proofs.RuleRows.{lost-by}
use Rattle.closing.specs.News.{atom_set}
use Rattle.closing.proofs.Good.{good-book, good-in, head-low}
use Rattle.closing.proofs.Noting.{noted}
use Rattle.closing.proofs.propagation.note_lost.Goals as goal

pub returns : goal.returns
returns c =
    let g = good-book c.args.rowed.now.book in
    let low = head-low g c.args.r (good-in g c.args.r c.requires) c.head-a.result c.head-a.ensures in
    c.note.ensures
    ∙ noted (all_in (book_in c.args.rowed.now.book.bytes.now) (of (listed c.args.off.now.w))) (atom_set c.args.lost.now.w) c.head-a.result c.is_lost.result
    (c.is_lost.ensures ∙ lost-by _ c.args.rowed.now.rows c.args.rowed.now.rowed c.args.off.now.w c.head-a.result (omega arith))
    ∙ fun_ext (λ a. ap (λ (x : AtomNo). atom_set c.args.lost.now.w a
    || (same_atom x a && all_in (book_in c.args.rowed.now.book.bytes.now) (of (listed c.args.off.now.w)) a)) c.head-a.ensures)
