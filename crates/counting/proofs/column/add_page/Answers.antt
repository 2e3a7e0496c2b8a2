-- The counts of the atoms so far were added to, the others stand.
use Rattle.std.proofs.Common.{refl, rules}
use Rattle.counting.proofs.Columns.{sums-fit, sums-turn, sums-end}
use Rattle.counting.proofs.column.add_page.Goals as goal

pub loop-a-init : goal.loop-a-init
loop-a-init c = (c.requires.2, refl)

pub overflow_add-counts : goal.overflow_add-counts
overflow_add-counts c =
    let h = sums-fit c.args.page.now c.args.atoms c.args.rows c.args.counts.now c.requires.1 c.requires.2
    c.loop-a-test.true c.loop-a.invariant.1 c.count_atom.ensures c.requires.3 in
    search rules

pub loop-a-preserved : goal.loop-a-preserved
loop-a-preserved c = (
  search rules,
  sums-turn c.args.page.now c.args.atoms c.args.rows c.args.counts.now c.requires.1 c.requires.2
      c.loop-a-test.true c.loop-a.invariant.1 c.count_atom.ensures,
)

pub returns : goal.returns
returns c =
    sums-end c.args.page.now c.args.atoms c.args.rows c.args.counts.now c.requires.1 c.requires.2
    c.loop-a.auto.a-end c.loop-a-test.false c.loop-a.invariant.1
