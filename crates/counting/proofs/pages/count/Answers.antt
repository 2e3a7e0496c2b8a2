-- count keeps its promise: the book refused, or a good one counted.
use Rattle.std.proofs.Common.{refl, sym, ◌∙◌}
use Rattle.std.proofs.lemmas.Result.{err_from_is_err_and}
use Rattle.book.specs.Format.{read_of}
use Rattle.book.proofs.Shapes.{told-good}
use Rattle.book.proofs.Verdict.{read-bad}
use Rattle.counting.proofs.Counts.{count-bad-book, count-good-book}
use Rattle.counting.proofs.pages.count.Goals as goal

pub returns-in_err-read : goal.returns-in_err-read
returns-in_err-read c =
    let p = err_from_is_err_and c.from_residual.result c.from_residual.ensures.1 in
    rw (p.1, p.2) (sym (count-bad-book _ _ _ _ _ (read-bad _ c.in_err-read.ensures.tells refl)))

pub returns : goal.returns
returns c =
    let read = c.in_ok-read.read in
    rw (← c.in_ok-read.ensures.bytes)
    (c.count_in.ensures ∙ sym (count-good-book read.bytes.now _ _ _ _ _ _ (told-good (read_of read.bytes.now) _ _ _ read.read_as)))
