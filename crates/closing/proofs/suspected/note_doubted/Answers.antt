-- The rule's head is noted unless it is sure.
use mathlib.Core.Path.{ap, fun_ext, ◌∙◌}
use mathlib.Core.Bool.{not, ◌&&◌, ◌||◌}
use Rattle.meaning.specs.declared.AtomNo.{AtomNo}
use Rattle.meaning.specs.Books.{same_atom}
use Rattle.meaning.specs.Bits.{listed}
use Rattle.meaning.specs.Written.{of}
use Rattle.meaning.specs.Suspects.{sure}
use Rattle.book.specs.Format.{book_in}
use Rattle.closing.specs.News.{atom_set}
use Rattle.closing.proofs.Noting.{noted}
use Rattle.closing.proofs.suspected.note_doubted.Goals as goal

pub returns : goal.returns
returns c =
    c.note.ensures
    ∙ noted (λ a. not (sure (book_in c.args.rowed.now.book.bytes.now) (of (listed c.args.off.now.w)) a)) (atom_set c.args.atoms.now.w) c.head-a.result (not c.is_sure.result)
    (ap not c.is_sure.ensures)
    ∙ fun_ext (λ a. ap (λ (x : AtomNo). atom_set c.args.atoms.now.w a
    || (same_atom x a && not (sure (book_in c.args.rowed.now.book.bytes.now) (of (listed c.args.off.now.w)) a))) c.head-a.ensures)
