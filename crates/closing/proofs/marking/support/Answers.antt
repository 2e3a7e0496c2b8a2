-- The marks are grown from nothing, and the rules without a mark become fewer; a sweep that marks none has found the support set.
use Prim.Native.Nat.{ℕ}
use lib.ListN.{replicate}
use Rattle.meaning.proofs.Four.{members-nothing}
use Rattle.meaning.proofs.Listed.{listed-empty}
use Rattle.closing.proofs.Growing.{grown-none, grown-more, pass-less}
use Rattle.closing.proofs.Good.{good-book, good-few}
use Rattle.closing.proofs.Headed.{headed-none}
use Rattle.closing.proofs.Supporting.{marks-support}
use Rattle.closing.proofs.marking.support.Goals as goal

pub loop-supported-init : goal.loop-supported-init
loop-supported-init c = let e = listed-empty (replicate {A = ℕ} 4 0) members-nothing in (grown-none _ _ e, headed-none _ _ e)

pub returns-then-not-sweep : goal.returns-then-not-sweep
returns-then-not-sweep c =
    let g = good-book c.args.book.now in
    marks-support _ _ (good-few g) c.loop-supported.invariant.0
    (rw c.if-not-sweep.true at c.sweep.ensures.0)

pub loop-supported-smaller : goal.loop-supported-smaller
loop-supported-smaller c = pass-less (rw c.if-not-sweep.false at c.sweep.ensures.0)

pub loop-supported-preserved : goal.loop-supported-preserved
loop-supported-preserved c =
    (grown-more c.loop-supported.invariant.0 c.sweep.ensures.0.grown, c.sweep.ensures.1)
