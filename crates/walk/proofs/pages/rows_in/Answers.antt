-- The rows that there is room for: one where a row has no bytes, else as many as the bytes make.
use mathlib.Core.Path.{sym}
use native.Mathlib.Omega.{arith}
use Rattle.meaning.proofs.Choice.{eq_yes, eq_no}
use Rattle.walk.proofs.pages.rows_in.Goals as goal

pub returns-then-atoms-eq0 : goal.returns-then-atoms-eq0
returns-then-atoms-eq0 c = sym (eq_yes _ _ _ _ (omega arith))

pub returns-else-atoms-eq0 : goal.returns-else-atoms-eq0
returns-else-atoms-eq0 c = sym (eq_no _ _ _ _ (λ e. omega arith))
