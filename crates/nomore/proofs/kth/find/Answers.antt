-- find keeps its promise: each return is one case of what is answered, along the no_mo_re walk.
use mathlib.Core.Path.{ap}
use Rattle.std.proofs.lemmas.Result.{err_from_is_err_and}
use Rattle.book.specs.ReadBook.{shape_in}
use Rattle.walk.proofs.Answering.{find-no-number, find-no-room, find-refused, find-walked}
use Rattle.nomore.proofs.kth.find.Goals as goal

pub returns-in_err-book : goal.returns-in_err-book
returns-in_err-book c =
    let p = err_from_is_err_and c.from_residual.result c.from_residual.ensures.1 in
    rw (p.1, p.2) (find-refused _ c.read.ensures.tells _ _ _ _ (ap shape_in c.in_err-book.was))

pub returns-then-k-eq0 : goal.returns-then-k-eq0
returns-then-k-eq0 c = find-no-number _ _ (rw c.in_ok-book.ensures.bytes at c.in_ok-book.book.read_as) _ _ _ _ c.if-k-eq0.true

pub returns-then-answer-book : goal.returns-then-answer-book
returns-then-answer-book c =
    find-no-room _ _ (rw c.in_ok-book.ensures.bytes at c.in_ok-book.book.read_as) _ _ _ _ c.if-k-eq0.false c.if-answer-book.true

pub returns : goal.returns
returns c =
    find-walked _ _ (rw c.in_ok-book.ensures.bytes at c.in_ok-book.book.read_as) _ _ _ _ c.if-k-eq0.false c.if-answer-book.false
    (rw c.in_ok-book.ensures.bytes at c.kth.ensures) c.tell.ensures
