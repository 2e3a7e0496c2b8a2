-- The turn of a book: its name can't be opened, or it was counted, stopped at the limit or refused.
use Rattle.std.proofs.Common.{ap, ◌∙◌}
use Rattle.std.specs.Prelude.{Err}
use Rattle.counting.specs.Count.{told}
use Rattle.counting.proofs.Summing.{turn-closed, turn-open, turn-counts, turn-stops, turn-refuses}
use Rattle.counting.proofs.turn.take_turn.Goals as goal

pub returns-then-not-is_open : goal.returns-then-not-is_open
returns-then-not-is_open c =
    let a = c.args in
    turn-closed a.is_open a.book.now a.limit a.counts.now a.totals c.if-not-is_open.true

pub returns-in-Ok : goal.returns-in-Ok
returns-in-Ok c =
    let a = c.args in
    turn-open a.is_open a.book.now a.limit a.counts.now a.totals c.if-not-is_open.false
    (turn-counts a.book.now a.limit a.counts.now a.totals c.count.result c.count.ensures (ap told c.in-Ok.is) c.atoms_of.ensures
    c.turn_counted.ensures)

pub returns-in-Err-Stopped : goal.returns-in-Err-Stopped
returns-in-Err-Stopped c =
    let a = c.args in
    turn-open a.is_open a.book.now a.limit a.counts.now a.totals c.if-not-is_open.false
    (turn-stops a.book.now a.limit a.counts.now a.totals c.count.result c.count.ensures
    (c.in-Err-Stopped.is ∙ ap Err c.in-Err-Stopped.field-0-is))

pub returns-in-Err-Book : goal.returns-in-Err-Book
returns-in-Err-Book c =
    let a = c.args in
    turn-open a.is_open a.book.now a.limit a.counts.now a.totals c.if-not-is_open.false
    (turn-refuses a.book.now a.limit a.counts.now a.totals c.count.result c.count.ensures
    (c.in-Err-Book.is ∙ ap Err c.in-Err-Book.field-0-is) c.number.ensures)
