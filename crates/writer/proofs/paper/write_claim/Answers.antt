-- The book's refusals, then what is told in a good book.
use mathlib.Core.Path.{sym}
use Rattle.std.proofs.lemmas.Result.{err_from_is_err_and}
use Rattle.writer.proofs.Answering.{write-bad, write-good}
use Rattle.writer.proofs.paper.write_claim.Goals as goal

pub returns-in_err-book : goal.returns-in_err-book
returns-in_err-book c =
    let p = err_from_is_err_and c.from_residual.result c.from_residual.ensures.1 in
    rw (p.1, p.2) (write-bad _ _ _ _ _ c.in_err-book.ensures.tells)

pub returns : goal.returns
returns c = write-good _ _ _ _ (sym c.in_ok-book.ensures.tells) (rw c.in_ok-book.ensures.bytes at c.write_in.ensures)
