-- A row by value is joined as the row of the table.
use Rattle.closing.proofs.Spreading.{row-joined}
use Rattle.closing.proofs.suspected.join_standing.Goals as goal

pub returns : goal.returns
returns c =
    let s = c.args in
    row-joined s.rowed.now.rows s.set.now.w c.pos_row.result.w _ c.pos_row.ensures c.join.ensures
