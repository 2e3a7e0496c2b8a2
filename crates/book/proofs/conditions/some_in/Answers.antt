-- What is asked of the whole part is what is asked of the bytes that are left, turn by turn.
use mathlib.Core.Path.{sym, ◌∙◌}
use native.Mathlib.Omega.{arith}
use borrow.Author.Rules.{rules}
use Rattle.meaning.proofs.Tests.{or_left}
use Rattle.book.proofs.Bodies.{some_end, some_turn, table-says}
use Rattle.book.proofs.conditions.some_in.Goals as goal

pub bounds-table-wide : goal.bounds-table-wide
bounds-table-wide c =
    let f = c.requires.at c.loop-a.a-index (omega arith) in
    search rules

pub returns-then-table-wide : goal.returns-then-table-wide
returns-then-table-wide c =
    let s = c.args in
    sym
    (c.loop-a.invariant ∙ some_turn _ s.part.now c.loop-a.a-index (omega arith)
    ∙ or_left _ (table-says _ _ _ _ c.wide.ensures.0 c.if-table-wide.true))

pub loop-a-preserved : goal.loop-a-preserved
loop-a-preserved c =
    let s = c.args in
    let e = table-says s.table.now _ _ _ c.wide.ensures.0 c.if-table-wide.false in
    c.loop-a.invariant ∙ some_turn _ s.part.now c.loop-a.a-index (omega arith) ∙ rw e

pub returns : goal.returns
returns c =
    let s = c.args in
    sym (c.loop-a.invariant ∙ some_end _ s.part.now c.loop-a.a-index (omega arith))
