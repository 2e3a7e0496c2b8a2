-- The next word: there is none, or it starts and ends where its definition says and goes to its row.
use native.Mathlib.Omega.{arith}
use borrow.Author.Rules.{rules}
use Rattle.lparse.proofs.Words.{word-ahead}
use Rattle.lparse.proofs.Reading.{step-none, step-word}
use Rattle.lparse.proofs.step.take_word.Goals as goal

pub returns-then-start-text : goal.returns-then-start-text
returns-then-start-text c =
    let a = c.args in
    step-none a.text.now a.at a.due _ c.word_start-start.ensures.0 c.if-start-text.true c.at_end.ensures

-- the word goes on behind its first byte
pub slice_bounds-on_word-count : goal.slice_bounds-on_word-count
slice_bounds-on_word-count c =
    let a = c.args in
    let h = word-ahead a.text.now a.at _ _ c.word_start-start.ensures.0 (omega arith) c.word_end-end.ensures.0 in search rules

pub slice_bounds-on_word-start : goal.slice_bounds-on_word-start
slice_bounds-on_word-start c =
    let a = c.args in
    let h = word-ahead a.text.now a.at _ _ c.word_start-start.ensures.0 (omega arith) c.word_end-end.ensures.0 in search rules

pub returns : goal.returns
returns c =
    let a = c.args in
    step-word a.text.now a.at a.due _ _ c.word_start-start.ensures.0 (omega arith) c.word_end-end.ensures.0
    c.on_word.ensures c.stepped.ensures
