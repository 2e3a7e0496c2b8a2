-- The next page of a good book: no room, the first page by the walk, or a later one by resuming it. Both start with room for their rows.
use mathlib.Core.Path.{◌∙◌, ap}
use mathlib.Core.List.{[]}
use Rattle.walk.proofs.Answering.{page-no-room, page-room, page-first, page-later}
use Rattle.meaning.specs.Told.{success}
use Rattle.walk.proofs.ToldClash.{told-start, told-ended}
use Rattle.walk.proofs.pages.page_in.Goals as goal

pub returns-then-out-book : goal.returns-then-out-book
returns-then-out-book c =
    page-no-room _ _ c.args.book.read_as _ _ _ _ c.if-out-book.true

pub walk-t-requires : goal.walk-t-requires
walk-t-requires c =
    let b = c.args.book in
    let (room, shallow) = page-room _ _ b.read_as _ _ c.if-out-book.false c.rows_in.ensures b.small.1 c.empty.ensures in
    rw c.of-rowed.ensures (room, shallow, tt)

pub returns-then-tries-eq0 : goal.returns-then-tries-eq0
returns-then-tries-eq0 c =
    page-first _ _ c.args.book.read_as _ _ c.if-out-book.false c.rows_in.ensures _ _ (c.tell.ensures ∙ ap success (told-ended _ _ _ (record { tally = c.walk-t.result; out = [] }))) c.empty.ensures
    c.if-tries-eq0.true (told-start _ _ _ _ _ _ (rw c.of-rowed.ensures at c.walk-t.ensures))

pub resume-t-requires : goal.resume-t-requires
resume-t-requires c =
    let b = c.args.book in
    let (room, shallow) = page-room _ _ b.read_as _ _ c.if-out-book.false c.rows_in.ensures b.small.1 c.empty-2.ensures in
    rw c.of-rowed.ensures (room, shallow, tt)

pub returns : goal.returns
returns c =
    page-later _ _ c.args.book.read_as _ _ c.if-out-book.false c.rows_in.ensures _ _ (c.tell-2.ensures ∙ ap success (told-ended _ _ _ (record { tally = c.resume-t.result; out = [] }))) c.empty-2.ensures
    c.if-tries-eq0.false (told-start _ _ _ _ _ _ (rw c.of-rowed.ensures at c.resume-t.ensures))
