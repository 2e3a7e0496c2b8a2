-- The rows so far were counted, the others are left.
use Rattle.std.proofs.Common.{ap, ◌∙◌, rules}
use Rattle.std.specs.Slice.Iter.{chunks_exact_rest, chunks_exact_size}
use Rattle.counting.proofs.Columns.{rows-start, rows-turn, rows-end}
use Rattle.counting.proofs.column.count_atom.Goals as goal

pub loop-row-init : goal.loop-row-init
loop-row-init c =
    rw c.into_iter-row-iterator.ensures.into_iter_gives
    (rows-start _ _ _ _ c.requires.0 c.take-row-items.ensures.count
    (ap chunks_exact_rest c.take-row-items.ensures.source ∙ c.chunks_exact.ensures.rest)
    (ap chunks_exact_size c.take-row-items.ensures.source ∙ c.chunks_exact.ensures.size))

pub overflow_add-found : goal.overflow_add-found
overflow_add-found c =
    let s = c.in-Some.ensures.steps in
    let fits = (rows-turn _ _ _ _ c.loop-row.invariant _ _ s.0.0 s.0.1.0 s.0.1.1 s.1 c.one-found.ensures).0 in
    search rules

pub loop-row-preserved : goal.loop-row-preserved
loop-row-preserved c =
    let s = c.in-Some.ensures.steps in
    (rows-turn _ _ _ _ c.loop-row.invariant _ _ s.0.0 s.0.1.0 s.0.1.1 s.1 c.one-found.ensures).1

pub returns : goal.returns
returns c = rows-end _ _ _ _ c.loop-row.invariant (λ some. (c.in-None.ensures.steps some).1.0)
