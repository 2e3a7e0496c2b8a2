-- The count goes on page by page, and the lent array stands until it is at its end.
use Rattle.std.proofs.Common.{◌≡◌, length, take, refl, ap, arith, length-take-le, rules}
use Rattle.counting.proofs.Counting.{count-starts, row_kept, kept-long, all-answers, limit-answers, comes-as}
use Rattle.counting.proofs.pages.count_in.Goals as goal

pub loop-made-init : goal.loop-made-init
loop-made-init c =
    (count-starts _ _ c.args.book.now.read_as (omega arith) _, search rules, refl)

-- the part of the array that is lent has the bytes of a row
pub slice_bounds-count_page-end : goal.slice_bounds-count_page-end
slice_bounds-count_page-end c =
    let n = c.args.book.now.shape.atoms in
    let h : length (take n c.loop-made.last) ≡ n = length-take-le n c.loop-made.last (omega (arith, c.loop-made.invariant.1)) in
    search rules

pub count_page-requires : goal.count_page-requires
count_page-requires c = c.loop-made.invariant.0

pub loop-made-smaller : goal.loop-made-smaller
loop-made-smaller c =
    let f = comes-as _ _ _ _ _ c.in-More.is c.count_page.ensures in
    omega (arith, f.1, f.0.within)

pub loop-made-preserved : goal.loop-made-preserved
loop-made-preserved c =
    let f = comes-as _ _ _ _ _ c.in-More.is c.count_page.ensures in (
      row_kept _ _ c.args.book.now.read_as _ f.0,
      kept-long _ _ c.args.book.now.read_as (omega arith) _ f.0 c.loop-made.invariant.1,
      c.loop-made.invariant.2,
    )

pub copy_counts-requires : goal.copy_counts-requires
copy_counts-requires c =
    let h = c.requires in
    let z = ap length c.loop-made.invariant.2 in (search rules, search rules)

pub returns-in-All : goal.returns-in-All
returns-in-All c =
    all-answers _ _ c.args.book.now.read_as c.args.counts.now
    (comes-as _ _ _ _ _ c.in-All.is c.count_page.ensures) c.loop-made.invariant.2
    c.copy_counts.ensures

pub returns-in-Limited : goal.returns-in-Limited
returns-in-Limited c =
    limit-answers _ _ _ (comes-as _ _ _ _ _ c.in-Limited.is c.count_page.ensures)
    c.loop-made.invariant.2
