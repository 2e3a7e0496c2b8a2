-- `put_rules` stores line by line.
use native.Mathlib.Omega.{arith}
use Rattle.book.specs.ReadBook.{the_book}
use Rattle.aspif.proofs.Onward.{onward-start}
use Rattle.aspif.proofs.LinesStored.{lines-room, lines_more, lines-done, in-book, past-book}
use Rattle.aspif.proofs.lines.put_rules.Goals as goal

pub loop-r-init : goal.loop-r-init
loop-r-init c = onward-start _ _ _ c.requires

pub put_rule-end-requires : goal.put_rule-end-requires
put_rule-end-requires c = (omega arith, lines-room _ _ _ _ c.loop-r.r c.loop-r.invariant (in-book _ _ c.args.book.now.read_as (omega arith)))

pub loop-r-preserved : goal.loop-r-preserved
loop-r-preserved c =
    lines_more _ _ _ _ c.loop-r.r c.loop-r.invariant (in-book _ _ c.args.book.now.read_as (omega arith)) c.put_rule-end.ensures

pub shape_of-out : goal.shape_of-out
shape_of-out c = c.loop-r.invariant.long

pub returns : goal.returns
returns c =
    lines-done (the_book c.args.book.now) _ _ _ c.loop-r.r c.loop-r.invariant (past-book _ _ c.args.book.now.read_as (omega arith))
