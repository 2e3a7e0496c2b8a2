-- The table has the heads of the marked rules, so what every_in answers by it is whether the rule is held up; a rule that is marked adds
-- its head.
use mathlib.Core.Path.{sym, ◌∙◌}
use native.Mathlib.Omega.{arith}
use Rattle.meaning.specs.Books.{InBook}
use Rattle.meaning.proofs.Listed.{listed-long}
use Rattle.book.specs.Format.{book_in}
use Rattle.closing.proofs.Good.{good-book, good-in, good-few, good-asks, head-low, pos-low}
use Rattle.closing.proofs.Headed.{headed-set}
use Rattle.closing.proofs.Turns.{turn_in, mark-asked, mark-off, mark-waits, mark-added}
use Rattle.closing.proofs.marking.try_rule.Goals as goal
use Rattle.closing.proofs.marking.try_rule.Goals.{Start}

-- ---- the places on the way
inside : (s : Start) → InBook (book_in s.args.book.now.bytes.now) s.args.r
inside s = good-in (good-book s.args.book.now) s.args.r s.requires.0

-- ---- the needs
pub returns-then-has : goal.returns-then-has
returns-then-has c = (turn_in _ _ _ _ (sym c.has.ensures ∙ c.if-has.true), c.requires.1)

pub returns-then-has-2 : goal.returns-then-has-2
returns-then-has-2 c = (mark-off _ _ _ _ _ (sym c.has-2.ensures ∙ c.if-has-2.true), c.requires.1)

pub every_in-requires : goal.every_in-requires
every_in-requires c =
    pos-low (good-book c.args.book.now) c.args.r (inside (goal.at.every_in-requires c).Start) _ c.positives.ensures

pub returns-then-not-every_in : goal.returns-then-not-every_in
returns-then-not-every_in c =
    let z = c.positives.ensures in
    let e = mark-asked _ (good-asks (good-book c.args.book.now)) _ _ c.requires.1 c.args.r (inside (goal.at.returns-then-not-every_in c).Start) _ z c.every_in.ensures in
    (mark-waits _ _ _ _ _ (sym e ∙ c.if-not-every_in.true), c.requires.1)

pub bounds-supported-a : goal.bounds-supported-a
bounds-supported-a c =
    head-low (good-book c.args.book.now) c.args.r (inside (goal.at.bounds-supported-a c).Start) _ c.head-a.ensures

pub returns : goal.returns
returns c =
    let i = inside (goal.at.returns c).Start in
    let z = c.positives.ensures in
    let e = mark-asked _ (good-asks (good-book c.args.book.now)) _ _ c.requires.1 c.args.r i _ z c.every_in.ensures in
    let h = c.head-a.ensures in
    let put = c.put.ensures in (
      mark-added _ _ _ _ _ _ put (sym c.has.ensures ∙ c.if-has.false) (sym c.has-2.ensures ∙ c.if-has-2.false) (sym e ∙ c.if-not-every_in.false),
      headed-set _ _ c.requires.1 c.args.r i (omega (arith, listed-long c.args.marks.now.w, good-few (good-book c.args.book.now))) _ put _ h (head-low (good-book c.args.book.now) c.args.r i _ h),
    )
