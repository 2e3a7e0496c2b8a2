-- A row by value is joined as the row of the table.
use Rattle.closing.proofs.Spreading.{row-joined}
use Rattle.closing.proofs.propagation.join_rows.Goals as goal

pub returns : goal.returns
returns c =
    let s = c.args in (
      row-joined s.rowed.now.rows s.by_neg.now.w c.neg_row.result.w _ c.neg_row.ensures c.join.ensures,
      row-joined s.rowed.now.rows s.by_pos.now.w c.pos_row.result.w _ c.pos_row.ensures c.join-2.ensures,
    )
