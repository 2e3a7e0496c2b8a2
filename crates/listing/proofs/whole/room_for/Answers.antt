-- The rows that there is room for, as the walk counts them: one where a row has no bytes, else as many as the bytes make.
use Rattle.std.proofs.Common.{sym, arith}
use Rattle.meaning.proofs.Choice.{eq_yes, eq_no}
use Rattle.walk.specs.Page.{room_in}
use Rattle.listing.proofs.whole.room_for.Goals as goal

pub returns-then-atoms-eq0 : goal.returns-then-atoms-eq0
unfolding room_in
returns-then-atoms-eq0 c = sym (eq_yes _ _ _ _ (omega arith))

pub returns : goal.returns
unfolding room_in
returns c = sym (eq_no _ _ _ _ (λ e. omega arith))
