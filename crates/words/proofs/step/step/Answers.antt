-- The next word or line is taken as the definition takes it.
use native.Mathlib.Omega.{arith}
use borrow.Author.Rules.{rules}
use Rattle.words.proofs.Follow.{found-end, found-line, found_word, word-ahead}
use Rattle.words.proofs.Turns.{on-way, few-names, word-turn, line-turn, end-turn}
use Rattle.words.proofs.step.step.Goals as goal

pub next_token-requires : goal.next_token-requires
next_token-requires c = (on-way _ _ _ c.requires.0 c.requires.1).holds.inside

pub take_word-requires : goal.take_word-requires
take_word-requires c =
    let a = c.args in
    let (p, q, t) = word-ahead a.text.now a.r.at _ _ (found_word a.text.now a.r.at _ c.next_token.ensures _ _ c.in-Word.is) in
    (omega arith, t, few-names _ _ _ (on-way _ _ _ c.requires.0 c.requires.1))

pub overflow_add-place : goal.overflow_add-place
overflow_add-place c =
    let a = c.args in
    let (p, q, t) = found-line a.text.now a.r.at _ c.next_token.ensures _ c.in-Line.is in
    search rules

pub returns-in-Word : goal.returns-in-Word
returns-in-Word c =
    let a = c.args in
    word-turn a.text.now a.r a.draft.now (on-way _ _ _ c.requires.0 c.requires.1) _ _ (found_word a.text.now a.r.at _ c.next_token.ensures _ _ c.in-Word.is) _ c.take_word.ensures

pub returns-in-Line : goal.returns-in-Line
returns-in-Line c =
    let a = c.args in
    line-turn a.text.now a.r a.draft.now (on-way _ _ _ c.requires.0 c.requires.1) _ (found-line a.text.now a.r.at _ c.next_token.ensures _ c.in-Line.is) _ _ c.take_line.ensures

pub returns-in-End : goal.returns-in-End
returns-in-End c =
    let a = c.args in
    end-turn a.text.now a.r a.draft.now (on-way _ _ _ c.requires.0 c.requires.1) (found-end a.text.now a.r.at _ c.next_token.ensures c.in-End.is) _ _ c.take_line-in-End.ensures
