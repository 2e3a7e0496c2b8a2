-- What a good book settles: no room, or the rules' row and behind it the atoms' row, by the tables of the first closing.
use Rattle.closing.proofs.Settling.{settle-no-room, settle-told}
use Rattle.closing.proofs.first.settle_in.Goals as goal

pub returns-then-out-rules : goal.returns-then-out-rules
returns-then-out-rules c =
    settle-no-room _ _ c.args.book.read_as _ c.if-out-rules.true

pub returns : goal.returns
returns c =
    let same = c.of-rowed.ensures in
    settle-told _ _ c.args.book.read_as _ c.args.book.small.0 c.if-out-rules.false c.close-closed.result.colours c.empty.ensures (rw same at c.close-closed.ensures.0)
    c.of-rowed.result.rows c.begin.new.nt.w c.begin.new.nl.w (rw same at c.of-rowed.result.rowed) (rw same at c.begin.ensures.0) (rw same at c.begin.ensures.1)
    c.write_settled.ensures c.write_settled-2.ensures
