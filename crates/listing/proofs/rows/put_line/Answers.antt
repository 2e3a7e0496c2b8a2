-- `put_line` puts the parts of a line one after the other.
use Rattle.listing.proofs.Lines.{line-gathered}
use Rattle.listing.proofs.rows.put_line.Goals as goal

pub returns : goal.returns
returns c = line-gathered _ _ _ _ _ _ _ _ c.put_number.ensures c.byte.ensures c.put_set.ensures c.byte-2.ensures
