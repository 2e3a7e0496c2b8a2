-- With the rule put on its side in a closed colouring, what is propagated is under way to the closing, and the rest of the way closes it.
use mathlib.Core.Path.{ap, ◌∙◌}
use Prim.Native.Nat.{◌≤◌}
use native.Mathlib.Omega.{arith}
use borrow.Author.Rules.{rules}
use Rattle.meaning.specs.Books.{count}
use Rattle.meaning.specs.Colours.{side_of}
use Rattle.meaning.specs.Bits.{listed}
use Rattle.meaning.specs.Written.{Tables, written, coloured, lent, colour, chosen, pair}
use Rattle.meaning.proofs.Written.{Sized, sized-chosen}
use Rattle.meaning.proofs.Listed.{sized-written}
use Rattle.meaning.proofs.Propagation.{closed-propagated}
use Rattle.meaning.proofs.Suspects.{closed-settled}
use Rattle.book.specs.Format.{book_in}
use Rattle.book.proofs.Places.{shape-count, in-shape}
use Rattle.closing.specs.Ended.{ended_at, EndsAt, at-end}
use Rattle.closing.proofs.Good.{good-book, good-few}
use Rattle.closing.proofs.Propagating.{sized-coloured, sized-colour}
use Rattle.closing.proofs.Closed.{closes-start, propagated-to, propagated-off, put-stays, pair-chosen, closes-propagated, closes-end, clash-end}
use Rattle.closing.proofs.Leaving.{ends-behind, tells-clash}
use Rattle.closing.proofs.close_put.Goals as goal
use Rattle.closing.proofs.close_put.Goals.{Start, After-close_propagated}

long : (s : Start) → Sized (written s.args.d)
long s = sized-written s.args.d (search rules)

-- behind the rest of the way: how the sets end
ends : (k : After-close_propagated) → count (book_in k.args.rowed.now.book.bytes.now) ≤ 255
    → EndsAt (book_in k.args.rowed.now.book.bytes.now) k.args.early (pair (chosen (side_of k.args.side) k.args.r (written k.args.d)))
    (lent (listed k.close_propagated.new.on.w) (listed k.close_propagated.new.off.w)) k.close_propagated.result
ends k fits =
    let (e, f) = k.propagate_put.ensures in
    let sets = colour (side_of k.args.side) k.args.r (coloured (listed k.args.d.on.w) (listed k.args.d.off.w)) in
    rw (← pair-chosen (side_of k.args.side) k.args.r (written k.args.d))
    (ends-behind _ (closes-propagated _ fits sets (sized-colour (side_of k.args.side) k.args.r (sized-coloured _ _)) e f (closes-start _ _)) k.close_propagated.ensures)

-- ---- the needs
pub propagate_put-requires : goal.propagate_put-requires
propagate_put-requires c =
    (in-shape _ _ c.args.rowed.now.book.read_as _ c.requires.in-book, closed-propagated _ c.requires.closed)

pub close_propagated-requires : goal.close_propagated-requires
close_propagated-requires c =
    let fits = good-few (good-book c.args.rowed.now.book) in
    let (e, f) = c.propagate_put.ensures in
    let sets = colour (side_of c.args.side) c.args.r (coloured (listed c.args.d.on.w) (listed c.args.d.off.w)) in (
      (propagated-to _ fits sets (sized-colour (side_of c.args.side) c.args.r (sized-coloured _ _)) e f).good.propagated,
      closed-settled _ c.requires.closed,
      λ q h m. propagated-off _ fits sets (sized-colour (side_of c.args.side) c.args.r (sized-coloured _ _)) e f q h
          (put-stays (side_of c.args.side) c.args.r c.args.d.on.w c.args.d.off.w (omega (arith, c.requires.in-book, fits)) q m),
    )

pub choose-c-requires : goal.choose-c-requires
choose-c-requires c =
    (omega (arith, c.requires.in-book, good-few (good-book c.args.rowed.now.book)), c.requires.low)

pub returns-then-close_propagated : goal.returns-then-close_propagated
returns-then-close_propagated c =
    let at = goal.at.returns-then-close_propagated c in
    tells-clash c.choose-c.ensures c.args.r (good-few (good-book c.args.rowed.now.book)) (sized-chosen (side_of c.args.side) c.args.r (long at.Start)) (ends at.After-close_propagated (good-few (good-book c.args.rowed.now.book))) c.if-close_propagated.true

pub returns : goal.returns
returns c =
    let at = goal.at.returns c in
    let n = shape-count _ _ c.args.rowed.now.book.read_as in
    let on = c.close_propagated.new.on.w in
    let off = c.close_propagated.new.off.w in
    let to = c.ended.ensures.0 ∙ ap (λ (t : Tables). ended_at c.args.rowed.now.book.shape.rules t (listed on) (listed off)) c.choose-c.ensures in
    let q = closes-end _ (good-few (good-book c.args.rowed.now.book)) (chosen (side_of c.args.side) c.args.r (written c.args.d)) (sized-chosen (side_of c.args.side) c.args.r (long at.Start)) on off
    ((ends at.After-close_propagated (good-few (good-book c.args.rowed.now.book))).closed c.if-close_propagated.false) n to in
    at-end q (clash-end _ _ n q _ _ (ap pair to) c.ended.ensures.1)
