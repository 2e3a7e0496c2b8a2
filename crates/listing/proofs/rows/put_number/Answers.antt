-- The digits that `decimal` promises are the text of the number.
use Rattle.std.proofs.Common.{arith}
use Rattle.listing.proofs.Lines.{number-gathered}
use Rattle.listing.proofs.rows.put_number.Goals as goal

pub returns : goal.returns
returns c =
    let d = c.decimal-count.ensures in number-gathered _ _ _ _ _ (omega arith) d.len d.digits c.put_text.ensures
