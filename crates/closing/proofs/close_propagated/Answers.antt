-- The invariant: the sets go on from the start within every closed pair above it (UnderWay), nothing follows from them but by support, and
-- with the old rules off, which are off, all others are supported. A turn that goes on has put a rule off. Where nothing is unsupported the
-- pair is closed, and what is reached at the start of a turn may be left at a contradiction. Blueprint C2.
use mathlib.Core.Path.{sym, subst}
use mathlib.Core.List.{List}
use Prim.Native.Nat.{ℕ}
use native.Mathlib.Omega.{arith}
use Rattle.meaning.specs.Colours.{Under}
use Rattle.meaning.specs.Bits.{listed}
use Rattle.meaning.specs.Written.{of, coloured, lent}
use Rattle.meaning.specs.Suspects.{Settled}
use Rattle.book.specs.Format.{book_in}
use Rattle.book.proofs.Places.{shape-count}
use Rattle.closing.proofs.Good.{good-book, good-few}
use Rattle.closing.proofs.Propagating.{sized-coloured}
use Rattle.closing.proofs.Closed.{closes-start, propagated-to, closes-propagated, propagated-no-more, dropped-above}
use Rattle.closing.proofs.Closed.{closes-dropped, dropped-settled, dropped-less, propagated-off, closed-to}
use Rattle.closing.proofs.Leaving.{ends-left, ends-closed}
use Rattle.closing.proofs.close_propagated.Goals as goal

-- ---- the needs
pub loop-old-init : goal.loop-old-init
loop-old-init c = (closes-start _ _, c.requires.0, c.requires.1, c.requires.2)

-- the closing is left at the start of a turn
pub returns-then-is_left : goal.returns-then-is_left
returns-then-is_left c =
    ends-left _ (shape-count _ _ c.args.rowed.now.book.read_as) (listed c.loop-old.on.w) (listed c.loop-old.off.w) c.loop-old.invariant.0 c.is_left.ensures c.if-is_left.true

pub returns-then-not-drop_suspects : goal.returns-then-not-drop_suspects
returns-then-not-drop_suspects c =
    let l = c.loop-old in
    ends-closed (closed-to _ (good-few (good-book c.args.rowed.now.book)) (lent (listed c.args.on.now.w) (listed c.args.off.now.w)) l.on.w l.off.w c.drop_suspects.new.off.w
    l.invariant.0 l.invariant.1 c.drop_suspects.ensures.0 c.if-not-drop_suspects.true)

pub propagate_dropped-requires : goal.propagate_dropped-requires
propagate_dropped-requires c =
    let l = c.loop-old in (
      l.invariant.1,
      dropped-above _ (good-few (good-book c.args.rowed.now.book)) (of (listed l.off.w)) (of (listed c.drop_suspects.new.off.w)) c.drop_suspects.ensures.0.gone,
    )

pub loop-old-smaller : goal.loop-old-smaller
loop-old-smaller c =
    let fits = good-few (good-book c.args.rowed.now.book) in
    let sets = coloured (listed c.loop-old.on.w) (listed c.drop_suspects.new.off.w) in
    omega (
      arith,
      propagated-no-more _ fits sets (sized-coloured _ _) c.propagate_dropped.ensures.0 c.propagate_dropped.ensures.1,
      dropped-less _ fits _ _ c.drop_suspects.ensures.0 (of (listed c.loop-old.on.w)) c.if-not-drop_suspects.false,
    )

pub loop-old-preserved : goal.loop-old-preserved
loop-old-preserved c =
    let fits = good-few (good-book c.args.rowed.now.book) in
    let l = c.loop-old in
    let sets = coloured (listed l.on.w) (listed c.drop_suspects.new.off.w) in
    let dropped = closes-dropped _ fits _ _ c.drop_suspects.ensures.0.gone (of (listed l.on.w)) l.invariant.0 in
    let (e, f) = c.propagate_dropped.ensures in
    let same = c.drop_suspects.ensures.1 in (
      closes-propagated _ fits sets (sized-coloured _ _) e f dropped,
      (propagated-to _ fits sets (sized-coloured _ _) e f).good.propagated,
      subst (λ (v : List ℕ). Settled (book_in c.args.rowed.now.book.bytes.now) (of (listed v))) (sym same)
          (dropped-settled _ fits (of (listed l.off.w)) _ c.drop_suspects.ensures.0.gone),
      subst (λ (v : List ℕ). Under (book_in c.args.rowed.now.book.bytes.now) (of (listed v)) (of (listed c.propagate_dropped.new.off.w))) (sym same)
          (propagated-off _ fits sets (sized-coloured _ _) e f),
    )
