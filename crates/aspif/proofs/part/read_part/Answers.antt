-- `read_part` reads literal by literal.
use native.Mathlib.Omega.{arith}
use Rattle.aspif.proofs.Scanned.{behind}
use Rattle.aspif.proofs.Gathered.{gathers-start, gathers-end, item-above, gathers-more}
use Rattle.aspif.proofs.part.read_part.Goals as goal

pub loop-value-init : goal.loop-value-init
loop-value-init c = gathers-start _ _ _ c.requires.0 c.requires.1

pub overflow_add-top : goal.overflow_add-top
overflow_add-top c = omega (arith, c.loop-value.invariant.top-most)

pub read_item-requires : goal.read_item-requires
read_item-requires c = c.loop-value.invariant.inside

pub returns-in_default : goal.returns-in_default
returns-in_default c =
    gathers-end _ _ _ c.loop-value.invariant _ c.read_item.ensures.result_value c.in_default.is

pub keep_atom-small-requires : goal.keep_atom-small-requires
keep_atom-small-requires c =
    omega (arith, item-above _ _ _ c.loop-value.invariant _ c.read_item.ensures.result_value c.in-Some.is c.read_item.ensures.behind)

pub overflow_add-count : goal.overflow_add-count
overflow_add-count c =
    omega (arith, c.loop-value.invariant.ahead, c.loop-value.invariant.inside, behind c.read_item.ensures.behind c.in-Some.is)

pub loop-value-smaller : goal.loop-value-smaller
loop-value-smaller c =
    let (p, q, r) = behind c.read_item.ensures.behind c.in-Some.is in omega arith

pub loop-value-preserved : goal.loop-value-preserved
loop-value-preserved c =
    gathers-more _ _ _ c.loop-value.invariant _ c.read_item.ensures.result_value c.in-Some.is c.read_item.ensures.behind c.keep_atom-small.ensures
