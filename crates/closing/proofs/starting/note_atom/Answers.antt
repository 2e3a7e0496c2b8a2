-- The atom is noted in each set for what the rows say of it.
use mathlib.Core.Path.{◌∙◌}
use Rattle.book.specs.RuleRows.{headed_by, lost_by}
use Rattle.closing.specs.News.{atom_set}
use Rattle.closing.proofs.Noting.{noted}
use Rattle.closing.proofs.starting.note_atom.Goals as goal

pub returns : goal.returns
returns c =
    let s = c.args in (
      c.note.ensures ∙ noted (headed_by s.rowed.now.rows s.on.now.w) (atom_set s.nt.now.w) s.a _ c.is_headed.ensures,
      c.note-2.ensures ∙ noted (lost_by s.rowed.now.rows s.off.now.w) (atom_set s.nl.now.w) s.a _ c.is_lost.ensures,
    )
