-- The invariant: what is reached lies within every propagated pair above the start, and what is pending is in the three sets
-- (Propagating). A turn that goes on has added a rule.
use mathlib.Core.Path.{refl}
use native.Mathlib.Omega.{arith}
use Rattle.meaning.specs.Bits.{listed}
use Rattle.meaning.specs.Written.{of, lent}
use Rattle.book.specs.Format.{book_in}
use Rattle.closing.specs.News.{atom_set}
use Rattle.closing.proofs.Good.{good-book, good-few}
use Rattle.closing.proofs.Falling.{at-rule, hit-inside}
use Rattle.closing.proofs.Propagating.{Propagating, propagating-fall, fall-no-more, fall-less, propagating-rise}
use Rattle.closing.proofs.Propagating.{rise-less, none_in, one_in, propagating-end}
use Rattle.closing.proofs.propagation.propagate_from.Goals as goal
use Rattle.closing.proofs.propagation.propagate_from.Goals.{After-fall}

-- behind step 1: what is reached and pending
fell : (f : After-fall) → Propagating (book_in f.args.rowed.now.book.bytes.now) (lent (listed f.args.on.now.w) (listed f.args.off.now.w))
    (lent (listed f.loop-off.on.w) (listed f.fall.new.off.w)) (atom_set f.fall.new.nt.w) (atom_set f.fall.new.nl.w) (of (listed f.fall.new.cand.w))
fell f = propagating-fall _ _ (of (listed f.loop-off.on.w)) _ _ _ _ _ _ _ _ f.fall.ensures (hit-inside _ _ _) f.loop-off.invariant

-- ---- the needs
pub returns-then-is_within-2 : goal.returns-then-is_within-2
returns-then-is_within-2 c =
    let at = goal.at.returns-then-is_within-2 c in
    let rose = propagating-rise _ (lent (listed c.args.on.now.w) (listed c.args.off.now.w)) _ _ _ _ _ _ _ _ c.raise.ensures.0 (fell at.After-fall) in
    propagating-end _ (good-few (good-book c.args.rowed.now.book)) c.args.on.now.w c.args.off.now.w c.raise.new.on.w c.fall.new.off.w rose
    (none_in c.raise.new.nt.w _ c.empty-then-is_within.result.w refl c.empty-then-is_within.ensures
    c.is_within-then-is_within.ensures c.if-is_within-2.true)
    (none_in c.fall.new.nl.w _ c.empty.result.w refl c.empty.ensures
    c.is_within.ensures c.if-is_within.true)
    (λ q h. at-rule c.raise.new.cand.w c.raise.ensures.1 q)

pub loop-off-smaller-else-is_within-2 : goal.loop-off-smaller-else-is_within-2
loop-off-smaller-else-is_within-2 c =
    let first = lent (listed c.args.on.now.w) (listed c.args.off.now.w) in
    let (a, m) = one_in c.raise.new.nt.w _ c.empty-then-is_within.result.w refl c.empty-then-is_within.ensures
    c.is_within-then-is_within.ensures c.if-is_within-2.false in
    let less = rise-less _ first _ _ _ _ _ _ _ _ c.raise.ensures.0 c.fall.ensures.nt-now (fell (goal.at.loop-off-smaller-else-is_within-2 c).After-fall) a m in
    let no_more = fall-no-more _ first (of (listed c.loop-off.on.w)) _ _ _ _ _ _ _ _ c.fall.ensures in
    omega (arith, less, no_more)

pub loop-off-preserved-else-is_within-2 : goal.loop-off-preserved-else-is_within-2
loop-off-preserved-else-is_within-2 c =
    propagating-rise _ (lent (listed c.args.on.now.w) (listed c.args.off.now.w)) _ _ _ _ _ _ _ _ c.raise.ensures.0 (fell (goal.at.loop-off-preserved-else-is_within-2 c).After-fall)

pub loop-off-smaller : goal.loop-off-smaller
loop-off-smaller c =
    let (a, m) = one_in c.fall.new.nl.w _ c.empty.result.w refl c.empty.ensures
    c.is_within.ensures c.if-is_within.false in
    fall-less _ (lent (listed c.args.on.now.w) (listed c.args.off.now.w)) (of (listed c.loop-off.on.w)) _ _ _ _ _ _ _ _ c.fall.ensures a m

pub loop-off-preserved : goal.loop-off-preserved
loop-off-preserved c = fell (goal.at.loop-off-preserved c).After-fall
