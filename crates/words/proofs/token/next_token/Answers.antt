-- There is none, or a line ends, or a word starts and ends where its definition says.
use native.Mathlib.Omega.{arith}
use Rattle.words.proofs.Words.{token_end, token-line, token-word}
use Rattle.words.proofs.token.next_token.Goals as goal

pub returns-then-text-start : goal.returns-then-text-start
returns-then-text-start c = token_end _ _ _ c.start_of-start.ensures.0 (omega arith)

pub returns-then-text-start-eq10 : goal.returns-then-text-start-eq10
returns-then-text-start-eq10 c =
    token-line _ _ _ c.start_of-start.ensures.0 (omega arith) c.if-text-start-eq10.true

pub returns : goal.returns
returns c =
    token-word _ _ _ c.start_of-start.ensures.0 (omega arith) c.if-text-start-eq10.false _ c.end_of.ensures.0
