-- An entry of a list adds its rule; an atom that stands elsewhere adds none.
use Rattle.book.proofs.Made.{adds-nil}
use Rattle.lparse.proofs.Entries.{no-entry}
use Rattle.lparse.proofs.form.add_entry.Goals as goal

pub returns-in-Plus : goal.returns-in-Plus
returns-in-Plus c = λ k e h. rw c.in-Plus.is (c.add_plus.ensures k e h)

pub returns-in-Minus : goal.returns-in-Minus
returns-in-Minus c = λ k e h. rw c.in-Minus.is (c.add_minus.ensures k e h)

pub returns-in_default : goal.returns-in_default
returns-in_default c = λ k e h. rw (no-entry c.args.standing k c.args.n c.in_default.not-Plus c.in_default.not-Minus) (adds-nil _ _)
