-- The book's reading decides: its refusal, or the paper's check with the book that was read.
use mathlib.Core.Path.{sym, ◌∙◌}
use Rattle.std.proofs.lemmas.Result.{err_from_is_err_and}
use Rattle.checker.proofs.PaperChecked.{check-refused, check-good}
use Rattle.checker.proofs.paper.check.Goals as goal

pub returns-in_err-book : goal.returns-in_err-book
returns-in_err-book c =
    let p = err_from_is_err_and c.from_residual.result c.from_residual.ensures.1 in
    rw (p.1, p.2) (sym (check-refused _ _ _ _ (sym c.in_err-book.ensures.tells)))

pub returns : goal.returns
returns c =
    rw c.in_ok-book.ensures.bytes at c.check_paper.ensures
    ∙ sym (check-good _ _ _ (sym c.in_ok-book.ensures.tells))
