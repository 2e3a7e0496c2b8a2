-- One bit is stored in one word of the row.
use native.Mathlib.Omega.{arith}
use Rattle.book.proofs.RowStores.{store-entered}
use Rattle.book.proofs.standing.enter.Goals as goal

pub returns : goal.returns
returns c =
    store-entered c.args.rows.now c.args.k c.args.r _ c.wide-n.ensures.0 c.requires.1 c.requires.0 (omega arith)
