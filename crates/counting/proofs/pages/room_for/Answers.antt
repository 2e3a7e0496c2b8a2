-- The rows of a full page: one where a row has no bytes, else as many as the bytes make.
use Rattle.std.proofs.Common.{sym, arith}
use Rattle.meaning.proofs.Choice.{eq_yes, eq_no}
use Rattle.counting.proofs.pages.room_for.Goals as goal

pub returns-then-atoms-eq0 : goal.returns-then-atoms-eq0
returns-then-atoms-eq0 c = sym (eq_yes _ _ _ _ (omega arith))

pub returns : goal.returns
returns c = sym (eq_no _ _ _ _ (λ e. omega arith))
