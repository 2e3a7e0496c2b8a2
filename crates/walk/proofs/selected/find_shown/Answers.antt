-- find_shown keeps its promise: each return is one case of what is answered. A refused book comes first, then k, the list, the room and the
-- walk.
use mathlib.Core.Path.{sym, ◌∙◌, ap}
use native.Mathlib.Omega.{arith}
use Rattle.std.proofs.lemmas.Result.{err_from_is_err_and}
use Rattle.book.specs.ReadBook.{shape_in}
use Rattle.walk.proofs.Selecting.{selected-refused, selected-no-number, selected-no-list, selected-no-room, selected-walked}
use Rattle.walk.proofs.selected.find_shown.Goals as goal

pub returns-in_err-book : goal.returns-in_err-book
returns-in_err-book c =
    let p = err_from_is_err_and c.from_residual.result c.from_residual.ensures.1 in
    rw (p.1, p.2) (selected-refused _ c.read.ensures.tells _ _ _ _ (ap shape_in c.in_err-book.was))

pub returns-then-k-eq0 : goal.returns-then-k-eq0
returns-then-k-eq0 c = selected-no-number _ _ (rw c.in_ok-book.ensures.bytes at c.in_ok-book.book.read_as) _ _ _ _ c.if-k-eq0.true

pub returns-then-not-is_good_list : goal.returns-then-not-is_good_list
returns-then-not-is_good_list c =
    selected-no-list _ _ (rw c.in_ok-book.ensures.bytes at c.in_ok-book.book.read_as) _ _ _ _ c.if-k-eq0.false c.is_good_list.ensures c.if-not-is_good_list.true

pub returns-then-answer-book : goal.returns-then-answer-book
returns-then-answer-book c =
    selected-no-room _ _ (rw c.in_ok-book.ensures.bytes at c.in_ok-book.book.read_as) _ _ _ _ c.if-k-eq0.false c.is_good_list.ensures c.if-not-is_good_list.false
    c.if-answer-book.true

pub kth_shown-requires : goal.kth_shown-requires
kth_shown-requires c =
    let z = c.if-k-eq0.false in
    (omega arith, c.if-answer-book.false, sym c.is_good_list.ensures ∙ c.if-not-is_good_list.false)

pub returns : goal.returns
returns c =
    selected-walked _ _ (rw c.in_ok-book.ensures.bytes at c.in_ok-book.book.read_as) _ _ _ _ c.if-k-eq0.false c.is_good_list.ensures c.if-not-is_good_list.false
    c.if-answer-book.false (rw c.in_ok-book.ensures.bytes at c.kth_shown.ensures) c.tell.ensures
