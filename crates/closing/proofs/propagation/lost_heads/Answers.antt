-- The heads of the members below the one at which the search stands are noted, if all their rules are off.
use native.Mathlib.Omega.{arith}
use Rattle.meaning.specs.Books.{rule_no}
use Rattle.meaning.specs.Bits.{listed}
use Rattle.meaning.specs.Written.{of}
use Rattle.meaning.specs.Colours.{all_in}
use Rattle.book.specs.Format.{book_in}
use Rattle.closing.proofs.Good.{good-book, good-count, good-in}
use Rattle.closing.proofs.Noting.{no-atoms, heads-start, heads-turn, heads-end}
use Rattle.closing.proofs.propagation.lost_heads.Goals as goal

pub loop-r-init : goal.loop-r-init
loop-r-init c =
    let s = c.args in
    ((0, c.next_in-r.ensures), heads-start _ (all_in (book_in s.rowed.now.book.bytes.now) (of (listed s.off.now.w))) s.fresh.now.w _ c.next_in-r.ensures no-atoms)

pub loop-r-preserved : goal.loop-r-preserved
loop-r-preserved c =
    let g = good-book c.args.rowed.now.book in
    let (from, n) = c.loop-r.invariant.0 in (
      (_, c.next_in-r-in-loop-r.ensures),
      heads-turn _ (all_in (book_in c.args.rowed.now.book.bytes.now) (of (listed c.args.off.now.w))) c.args.fresh.now.w from c.loop-r.r _ n (omega (arith, g.rules)) c.next_in-r-in-loop-r.ensures
          (good-in g (rule_no c.loop-r.r) (omega arith)) c.loop-r.invariant.1 c.note_lost.ensures,
    )

pub returns : goal.returns
returns c =
    heads-end _ (all_in (book_in c.args.rowed.now.book.bytes.now) (of (listed c.args.off.now.w))) c.args.fresh.now.w c.loop-r.r (omega (arith, good-count (good-book c.args.rowed.now.book))) c.loop-r.invariant.1
