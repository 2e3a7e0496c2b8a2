-- `list_page`: each answer of `page` makes a step of the listing; behind a full page the last row is kept.
use Rattle.std.proofs.Common.{refl, ap, ◌∙◌, arith}
use Rattle.std.specs.Prelude.{Ok}
use Rattle.meaning.specs.Told.{Answered}
use Rattle.walk.specs.Page.{PageEnd}
use Rattle.listing.proofs.Pages.{row_kept, room-count, follows-whole, follows-last, follows-cut, follows-refused}
use Rattle.listing.proofs.whole.list_page.Goals as goal

pub keep_row-requires : goal.keep_row-requires
keep_row-requires g c =
    let n = room-count _ _ _ c.room_for-count.ensures (omega arith) in
    (n.0, n.1, omega arith, omega arith)

pub overflow_add-result : goal.overflow_add-result
overflow_add-result g c =
    let n = room-count _ _ _ c.room_for-count.ensures (omega arith) in
    omega arith

pub returns-in-Ok-Whole : goal.returns-in-Ok-Whole
returns-in-Ok-Whole g c =
    let n = room-count _ _ _ c.room_for-count.ensures (omega arith) in record {
      rows_after = ap (λ (a : Answered PageEnd). a.buffer) c.page.ensures;
      follows = follows-whole _ _ _ _ c.page.result c.page.ensures (c.in-Ok-Whole.is ∙ ap Ok c.in-Ok-Whole.field-0-is) (omega arith)
          c.room_for-count.ensures refl
          (row_kept _ _ _ c.args.last.now _ n.0 n.1 c.requires.5 c.keep_row.ensures);
    }

pub returns-in-Ok-Last : goal.returns-in-Ok-Last
returns-in-Ok-Last g c =
    record {
      rows_after = ap (λ (a : Answered PageEnd). a.buffer) c.page.ensures;
      follows = follows-last _ _ _ _ c.page.result c.page.ensures (c.in-Ok-Last.is ∙ ap Ok c.in-Ok-Last.field-0-is) refl;
    }

pub returns-in-Ok-Cut : goal.returns-in-Ok-Cut
returns-in-Ok-Cut g c =
    record {
      rows_after = ap (λ (a : Answered PageEnd). a.buffer) c.page.ensures;
      follows = follows-cut _ _ _ _ c.page.result c.page.ensures (c.in-Ok-Cut.is ∙ ap Ok c.in-Ok-Cut.field-0-is) refl;
    }

pub returns-in-Err : goal.returns-in-Err
returns-in-Err g c =
    record {
      rows_after = ap (λ (a : Answered PageEnd). a.buffer) c.page.ensures;
      follows = follows-refused _ _ _ _ c.page.result c.page.ensures _ c.in-Err.is c.refused_page.ensures;
    }
