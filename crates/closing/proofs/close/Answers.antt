-- What is propagated is under way to the closing, and so is what follows when the rules that nothing held up are off. With these off all
-- others are supported, and the rest of the way closes it.
use mathlib.Core.Path.{ap}
use borrow.Author.Rules.{rules}
use Rattle.meaning.specs.Bits.{listed}
use Rattle.meaning.specs.Written.{written, of, coloured, pair}
use Rattle.meaning.proofs.Written.{Sized}
use Rattle.meaning.proofs.Listed.{sized-written}
use Rattle.book.proofs.Places.{shape-count}
use Rattle.closing.proofs.Good.{good-book, good-few}
use Rattle.closing.proofs.Propagating.{sized-coloured}
use Rattle.closing.proofs.Closed.{closes-start, propagated-to, propagated-off, closes-propagated, dropped-above}
use Rattle.closing.proofs.Closed.{closes-dropped, dropped-settled, closed-behind, closes-end, clash-end}
use Rattle.closing.proofs.Leaving.{never-left}
use Rattle.closing.proofs.close.Goals as goal
use Rattle.closing.proofs.close.Goals.{Start}

sized : (s : Start) → Sized (written s.args.c)
sized s = sized-written s.args.c (search rules)

pub propagate_dropped-requires : goal.propagate_dropped-requires
propagate_dropped-requires c =
    let fits = good-few (good-book c.args.rowed.now.book) in
    let (e, f) = c.propagate.ensures in (
      (propagated-to _ fits (coloured (listed c.args.c.on.w) (listed c.args.c.off.w)) (sized-coloured _ _) e f).good.propagated,
      dropped-above _ fits _ _ c.drop_unsupported.ensures,
    )

pub close_propagated-requires : goal.close_propagated-requires
close_propagated-requires c =
    let fits = good-few (good-book c.args.rowed.now.book) in
    let less-them = coloured (listed c.propagate.new.on.w) (listed c.drop_unsupported.new.off.w) in
    let (e, f) = c.propagate_dropped.ensures in (
      (propagated-to _ fits less-them (sized-coloured _ _) e f).good.propagated,
      dropped-settled _ fits (of (listed c.propagate.new.off.w)) _ c.drop_unsupported.ensures,
      propagated-off _ fits less-them (sized-coloured _ _) e f,
    )

-- the sets are under way to the closing behind the propagation, and so they are behind what follows from the rules that nothing held up
pub returns : goal.returns
returns c =
    let fits = good-few (good-book c.args.rowed.now.book) in
    let n = shape-count _ _ c.args.rowed.now.book.read_as in
    let (e, f) = c.propagate.ensures in
    let (g, h) = c.propagate_dropped.ensures in
    let propagated = closes-propagated _ fits (coloured (listed c.args.c.on.w) (listed c.args.c.off.w)) (sized-coloured _ _) e f (closes-start _ _) in
    let dropped = closes-dropped _ fits _ _ c.drop_unsupported.ensures (of (listed c.propagate.new.on.w)) propagated in
    let followed = closes-propagated _ fits (coloured (listed c.propagate.new.on.w) (listed c.drop_unsupported.new.off.w)) (sized-coloured _ _) g h dropped in
    let z = closes-end _ fits (written c.args.c) (sized (goal.at.returns c).Start) c.close_propagated.new.on.w c.close_propagated.new.off.w
    (closed-behind _ followed (never-left c.close_propagated.ensures)) n c.ended.ensures.0 in
    (z, clash-end _ _ n z _ _ (ap pair c.ended.ensures.0) c.ended.ensures.1)
