-- What is asked of the whole part is what is asked of the bytes that are left, turn by turn.
use mathlib.Core.Path.{sym, ◌∙◌}
use native.Mathlib.Omega.{arith}
use borrow.Author.Rules.{rules}
use Rattle.meaning.proofs.Tests.{not_first}
use Rattle.book.proofs.Bodies.{every-end, every-turn, table-says}
use Rattle.book.proofs.conditions.every_in.Goals as goal

pub bounds-table-wide : goal.bounds-table-wide
bounds-table-wide c =
    let f = c.requires.at c.loop-a.a-index (omega arith) in
    search rules

pub returns-then-not-table-wide : goal.returns-then-not-table-wide
returns-then-not-table-wide c =
    let s = c.args in
    sym
    (c.loop-a.invariant ∙ every-turn _ s.part.now c.loop-a.a-index (omega arith)
    ∙ not_first _ (table-says _ _ _ _ c.wide.ensures.0 c.if-not-table-wide.true))

pub loop-a-preserved : goal.loop-a-preserved
loop-a-preserved c =
    let s = c.args in
    let e = table-says s.table.now _ _ _ c.wide.ensures.0 c.if-not-table-wide.false in
    c.loop-a.invariant ∙ every-turn _ s.part.now c.loop-a.a-index (omega arith) ∙ rw e

pub returns : goal.returns
returns c =
    let s = c.args in
    sym (c.loop-a.invariant ∙ every-end _ s.part.now c.loop-a.a-index (omega arith))
