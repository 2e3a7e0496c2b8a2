-- No member of the set below the one at which the search stands is free.
use native.Mathlib.Omega.{arith}
use Rattle.meaning.specs.Books.{rule_no}
use Rattle.book.specs.Format.{book_in}
use Rattle.closing.proofs.Good.{good-book, good-count, good-in}
use Rattle.closing.proofs.Suspecting.{free-yes, free-no, free-start, free-turn, free-none, free_one}
use Rattle.closing.proofs.suspected.has_free.Goals as goal

pub loop-r-init : goal.loop-r-init
loop-r-init c =
    ((0, c.next_in-r.ensures), free-start (book_in c.args.book.now.bytes.now) c.args.set.now.w _ c.next_in-r.ensures)

pub returns-then-positives-eq0 : goal.returns-then-positives-eq0
returns-then-positives-eq0 c =
    let g = good-book c.args.book.now in
    let (from, n) = c.loop-r.invariant.0 in
    free_one (book_in c.args.book.now.bytes.now) c.args.set.now.w from c.loop-r.r n (good-in g (rule_no c.loop-r.r) (omega arith)) (omega (arith, g.rules))
    (free-yes _ _ c.positives.ensures c.if-positives-eq0.true)

pub loop-r-preserved : goal.loop-r-preserved
loop-r-preserved c = (
  (_, c.next_in-r-in-loop-r.ensures),
  free-turn (book_in c.args.book.now.bytes.now) c.args.set.now.w c.loop-r.r _ c.next_in-r-in-loop-r.ensures (free-no _ _ c.positives.ensures c.if-positives-eq0.false)
      c.loop-r.invariant.1,
)

pub returns : goal.returns
returns c =
    free-none (book_in c.args.book.now.bytes.now) c.args.set.now.w c.loop-r.r (omega (arith, good-count (good-book c.args.book.now))) c.loop-r.invariant.1
