-- A page that is full, last or cut by the limit; a good book's page is no refusal.
use Rattle.std.proofs.Common.{ℕ, ap, ◌∙◌, arith, rules}
use Rattle.std.specs.Prelude.{Ok}
use lib.ListN.{length-replicate}
use Rattle.book.proofs.Places.{shape-atoms}
use Rattle.counting.proofs.Paging.{full-addable, full-row, more-counted, last-addable, all-counted, cut-longer, never}
use Rattle.counting.proofs.pages.count_page.Goals as goal

-- ---- a full page

pub add_page-requires : goal.add_page-requires
add_page-requires c =
    let adds = full-addable _ _ c.args.book.now.read_as c.args.book.now.small c.requires _ (length-replicate {A = ℕ} 65280 0) c.page.result c.page.ensures
    (c.in-Ok-Whole.is ∙ ap Ok c.in-Ok-Whole.field-0-is) c.room_for-full.ensures in
    let h = adds.fits in
    (search rules, search rules, c.requires.counts-long, λ i m. omega (arith, adds.each i m))

pub overflow_mul-end : goal.overflow_mul-end
overflow_mul-end c =
    let h = (full-addable _ _ c.args.book.now.read_as c.args.book.now.small c.requires _ (length-replicate {A = ℕ} 65280 0) c.page.result c.page.ensures
    (c.in-Ok-Whole.is ∙ ap Ok c.in-Ok-Whole.field-0-is) c.room_for-full.ensures).fits in
    search rules

pub overflow_sub-end : goal.overflow_sub-end
overflow_sub-end c =
    let h = full-row _ _ c.args.book.now.read_as c.args.book.now.small c.requires _ (length-replicate {A = ℕ} 65280 0) c.page.result c.page.ensures
    (c.in-Ok-Whole.is ∙ ap Ok c.in-Ok-Whole.field-0-is) c.room_for-full.ensures in
    search rules

pub keep_row-requires : goal.keep_row-requires
keep_row-requires c =
    let h = (full-addable _ _ c.args.book.now.read_as c.args.book.now.small c.requires _ (length-replicate {A = ℕ} 65280 0) c.page.result c.page.ensures
    (c.in-Ok-Whole.is ∙ ap Ok c.in-Ok-Whole.field-0-is) c.room_for-full.ensures).fits in
    let g = full-row _ _ c.args.book.now.read_as c.args.book.now.small c.requires _ (length-replicate {A = ℕ} 65280 0) c.page.result c.page.ensures
    (c.in-Ok-Whole.is ∙ ap Ok c.in-Ok-Whole.field-0-is) c.room_for-full.ensures in
    (search rules, c.requires.last-long ∙ shape-atoms _ _ c.args.book.now.read_as)

pub overflow_add-result : goal.overflow_add-result
overflow_add-result c =
    let h = (full-addable _ _ c.args.book.now.read_as c.args.book.now.small c.requires _ (length-replicate {A = ℕ} 65280 0) c.page.result c.page.ensures
    (c.in-Ok-Whole.is ∙ ap Ok c.in-Ok-Whole.field-0-is) c.room_for-full.ensures).sum in
    search rules

pub returns-in-Ok-Whole : goal.returns-in-Ok-Whole
returns-in-Ok-Whole c =
    more-counted _ _ c.args.book.now.read_as c.args.book.now.small c.requires _ (length-replicate {A = ℕ} 65280 0) c.page.result c.page.ensures
    (c.in-Ok-Whole.is ∙ ap Ok c.in-Ok-Whole.field-0-is) c.room_for-full.ensures (search rules) c.keep_row.ensures c.add_page.ensures

-- ---- the last page

pub add_page-requires-in-Ok-Last : goal.add_page-requires-in-Ok-Last
add_page-requires-in-Ok-Last c =
    let adds = last-addable _ _ c.args.book.now.read_as c.args.book.now.small c.requires _ (length-replicate {A = ℕ} 65280 0) c.page.result c.page.ensures
    (c.in-Ok-Last.is ∙ ap Ok c.in-Ok-Last.field-0-is) (search rules) in
    let h = adds.fits in
    (search rules, search rules, c.requires.counts-long, λ i m. omega (arith, adds.each i m))

pub overflow_add-result-in-Ok-Last : goal.overflow_add-result-in-Ok-Last
overflow_add-result-in-Ok-Last c =
    let h = (last-addable _ _ c.args.book.now.read_as c.args.book.now.small c.requires _ (length-replicate {A = ℕ} 65280 0) c.page.result c.page.ensures
    (c.in-Ok-Last.is ∙ ap Ok c.in-Ok-Last.field-0-is) (search rules)).sum in
    search rules

pub returns-in-Ok-Last : goal.returns-in-Ok-Last
returns-in-Ok-Last c =
    all-counted _ _ c.args.book.now.read_as c.args.book.now.small c.requires _ (length-replicate {A = ℕ} 65280 0) c.page.result c.page.ensures
    (c.in-Ok-Last.is ∙ ap Ok c.in-Ok-Last.field-0-is) (search rules) c.add_page-in-Ok-Last.ensures

-- ---- the limit, and what does not come

pub returns-in-Ok-Cut : goal.returns-in-Ok-Cut
returns-in-Ok-Cut c =
    cut-longer _ _ c.args.book.now.read_as c.args.book.now.small c.requires _ (length-replicate {A = ℕ} 65280 0) c.page.result c.page.ensures
    (c.in-Ok-Cut.is ∙ ap Ok c.in-Ok-Cut.field-0-is)

pub returns-in-Err : goal.returns-in-Err
returns-in-Err c =
    never _ _ c.args.book.now.read_as c.args.book.now.small c.requires _ (length-replicate {A = ℕ} 65280 0) c.page.result c.page.ensures _ c.in-Err.is
