-- One turn after another makes a pass, and the table of heads goes with the marks.
use native.Mathlib.Omega.{arith}
use Rattle.meaning.proofs.Listed.{listed-long}
use Rattle.book.proofs.Places.{shape-count}
use Rattle.closing.proofs.Growing.{pass-turn, pass-end}
use Rattle.closing.proofs.Turns.{marking-mono}
use Rattle.closing.proofs.marking.sweep.Goals as goal

pub loop-r-preserved : goal.loop-r-preserved
loop-r-preserved c =
    let e = shape-count _ c.args.book.now.shape c.args.book.now.read_as in
    let f = listed-long c.loop-r.marks.w in (
      pass-turn (marking-mono _ _) c.loop-r.r (omega arith) (omega arith) c.loop-r.invariant.0 c.try_rule-more.ensures.0,
      c.try_rule-more.ensures.1,
    )

pub returns : goal.returns
returns c =
    let e = shape-count _ c.args.book.now.shape c.args.book.now.read_as in
    (pass-end c.loop-r.r (omega arith) (omega arith) c.loop-r.invariant.0, c.loop-r.invariant.1)
