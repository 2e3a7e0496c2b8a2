-- The candidates below the one at which the search stands have had their look.
use mathlib.Core.Path.{refl}
use native.Mathlib.Omega.{arith}
use lib.ListN.{replicate}
use Rattle.meaning.specs.Books.{count, rule_no}
use Rattle.meaning.specs.Bits.{listed}
use Rattle.meaning.specs.Written.{of}
use Rattle.meaning.proofs.Four.{members-nothing}
use Rattle.book.specs.Format.{book_in}
use Rattle.closing.proofs.Good.{good-book, good-count, good-in}
use Rattle.closing.proofs.Falling.{at-rule}
use Rattle.closing.proofs.Raising.{onward-last}
use Rattle.closing.proofs.Clearing.{swept-start, swept-next, swept-end, left_at}
use Rattle.closing.proofs.cleared.try_suspects.Goals as goal

pub loop-r-init : goal.loop-r-init
loop-r-init c =
    ((0, c.next_in-r.ensures), swept-start _ _ _ c.args.cand.now.w _ c.next_in-r.ensures _ (at-rule (replicate 4 0) members-nothing))

pub loop-r-preserved : goal.loop-r-preserved
loop-r-preserved c =
    let g = good-book c.args.rowed.now.book in
    let (from, n) = c.loop-r.invariant.0 in (
      (_, c.next_in-r-in-loop-r.ensures),
      swept-next _ (of (listed c.args.suspects.now.w)) (of (listed c.args.held.now.w)) c.args.cand.now.w from c.loop-r.r _ c.loop-r.invariant.1 n (omega (arith, g.rules))
          c.next_in-r-in-loop-r.ensures (good-in g (rule_no c.loop-r.r) (omega arith)) c.try_suspect.ensures,
    )

pub returns : goal.returns
returns c =
    swept-end c.loop-r.invariant.1 _ (onward-last c.args.cand.now.w c.loop-r.r (count (book_in c.args.rowed.now.book.bytes.now)) (omega (arith, good-count (good-book c.args.rowed.now.book), c.loop-r-test.false)))
    (left_at c.difference.result.w c.intersection.result.w _ _ _ c.loop-r.woken.w c.args.suspects.now.w c.loop-r.held.w
    c.difference.ensures refl c.intersection.ensures refl refl)
