-- 17, 19, or the joined book in the draft. The code counts the atoms and then the rules by the shapes, which count those of the books.
use native.Mathlib.Omega.{arith}
use Rattle.book.proofs.Places.{shape-atoms, shape-count}
use Rattle.crews.proofs.Reading.{over-atoms, over-rules, too_short, laid_out, no-book, laid-book}
use Rattle.crews.proofs.lay.lay_out.Goals as goal

pub returns-then-wide-gt255 : goal.returns-then-wide-gt255
returns-then-wide-gt255 c =
    let a = c.args in (
      over-atoms _ _ _ (omega (arith, c.wide.ensures.0, c.wide-2.ensures.0, shape-atoms _ a.first.now.shape a.first.now.read_as, shape-atoms _ a.second.now.shape a.second.now.read_as)),
      λ n e. no-book _ e,
    )

pub returns-then-wide-gt255-2 : goal.returns-then-wide-gt255-2
returns-then-wide-gt255-2 c =
    let a = c.args in (
      over-rules _ _ _ (omega (arith, c.wide.ensures.0, c.wide-2.ensures.0, shape-atoms _ a.first.now.shape a.first.now.read_as, shape-atoms _ a.second.now.shape a.second.now.read_as))
          (omega (arith, c.wide-3.ensures.0, c.wide-4.ensures.0, shape-count _ a.first.now.shape a.first.now.read_as, shape-count _ a.second.now.shape a.second.now.read_as)),
      λ n e. no-book _ e,
    )

pub join_in-n-requires : goal.join_in-n-requires
join_in-n-requires c = (
  omega (arith, c.wide.ensures.0, c.wide-2.ensures.0),
  omega (arith, c.wide-3.ensures.0, c.wide-4.ensures.0),
  c.requires,
)

pub returns-then-room-n : goal.returns-then-room-n
returns-then-room-n c =
    let a = c.args in (
      too_short _ _ _ (omega (arith, c.wide.ensures.0, c.wide-2.ensures.0, shape-atoms _ a.first.now.shape a.first.now.read_as, shape-atoms _ a.second.now.shape a.second.now.read_as))
          (omega (arith, c.wide-3.ensures.0, c.wide-4.ensures.0, shape-count _ a.first.now.shape a.first.now.read_as, shape-count _ a.second.now.shape a.second.now.read_as))
          c.join_in-n.ensures (omega arith),
      λ n e. no-book _ e,
    )

pub returns : goal.returns
returns c =
    let a = c.args in (
      laid_out _ _ _ (omega (arith, c.wide.ensures.0, c.wide-2.ensures.0, shape-atoms _ a.first.now.shape a.first.now.read_as, shape-atoms _ a.second.now.shape a.second.now.read_as))
          (omega (arith, c.wide-3.ensures.0, c.wide-4.ensures.0, shape-count _ a.first.now.shape a.first.now.read_as, shape-count _ a.second.now.shape a.second.now.read_as))
          c.join_in-n.ensures (omega arith),
      λ n e. laid-book e c.join_in-n.ensures,
    )
