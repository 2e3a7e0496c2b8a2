-- `put_row` copies the name over the front of what begins at the row.
use mathlib.Core.Path.{sym}
use native.Mathlib.Omega.{arith}
use Rattle.calling.proofs.Rows.{rowed-long, rowed-over, rowed-replaced}
use Rattle.calling.proofs.names.put_row.Goals as goal

pub returns-then-name-ge-NAME_ROOM : goal.returns-then-name-ge-NAME_ROOM
returns-then-name-ge-NAME_ROOM c = sym (rowed-long _ _ _ (omega arith))

pub returns-then-names-at : goal.returns-then-names-at
returns-then-names-at c = sym (rowed-over _ _ _ (omega arith) (omega arith))

pub returns : goal.returns
returns c =
    rowed-replaced _ _ _ _ c.copy_from_slice.ensures.after (omega arith) (omega arith) (omega arith)
