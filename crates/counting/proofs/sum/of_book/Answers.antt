-- The atoms so far were counted, each by the three tests.
use Rattle.std.proofs.Common.{◌≡◌, length-take-le, get_or-take, arith, rules}
use Rattle.counting.proofs.Columns.{one-most}
use Rattle.counting.proofs.Summing.{totals-start, totals-most, totals-more}
use Rattle.counting.proofs.sum.of_book.Goals as goal

pub loop-count-init : goal.loop-count-init
loop-count-init c = totals-start _ _

pub overflow_add-found : goal.overflow_add-found
overflow_add-found c =
    let most = totals-most _ _ _ c.loop-count.invariant in
    let one = one-most _ c.in_each.ensures in
    let long = length-take-le c.args.atoms c.args.counts.now c.requires in
    search rules

pub overflow_add-found-in-loop-count : goal.overflow_add-found-in-loop-count
overflow_add-found-in-loop-count c =
    let most = totals-most _ _ _ c.loop-count.invariant in
    let one = one-most _ c.in_some.ensures in
    let long = length-take-le c.args.atoms c.args.counts.now c.requires in
    search rules

pub overflow_add-found-in-loop-count-2 : goal.overflow_add-found-in-loop-count-2
overflow_add-found-in-loop-count-2 c =
    let most = totals-most _ _ _ c.loop-count.invariant in
    let one = one-most _ c.in_none.ensures in
    let long = length-take-le c.args.atoms c.args.counts.now c.requires in
    search rules

pub overflow_add-found-in-loop-count-3 : goal.overflow_add-found-in-loop-count-3
overflow_add-found-in-loop-count-3 c =
    let most = totals-most _ _ _ c.loop-count.invariant in
    let long = length-take-le c.args.atoms c.args.counts.now c.requires in
    search rules

pub loop-count-preserved : goal.loop-count-preserved
loop-count-preserved c =
    let long = length-take-le c.args.atoms c.args.counts.now c.requires in
    let e = get_or-take c.args.atoms c.args.counts.now c.loop-count.count-index 0 (omega arith) in
    totals-more _ _ c.loop-count.count-index c.loop-count.invariant (rw e at c.in_each.ensures) (rw e at c.in_some.ensures)
    (rw e at c.in_none.ensures)

pub returns : goal.returns
returns c =
    let long = length-take-le c.args.atoms c.args.counts.now c.requires in
    let e : c.loop-count.count-index ≡ c.args.atoms = omega arith in rw (← e) c.loop-count.invariant
