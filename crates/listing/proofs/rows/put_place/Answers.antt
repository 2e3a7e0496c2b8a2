-- A place whose byte is asked for is a space and its number; another is nothing.
use Rattle.std.proofs.Common.{arith}
use Rattle.listing.proofs.Lines.{no_place, one_place}
use Rattle.listing.proofs.rows.put_place.Goals as goal

pub returns-then-byte-asked : goal.returns-then-byte-asked
returns-then-byte-asked c = one_place _ _ _ _ _ _ (omega arith) c.byte.ensures c.put_number.ensures

pub returns-else-byte-asked : goal.returns-else-byte-asked
returns-else-byte-asked c = no_place _ _ _ _ (λ e. omega arith)
