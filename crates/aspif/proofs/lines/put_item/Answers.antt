-- `put_item` stores the word, and the number behind it.
use native.Mathlib.Omega.{arith}
use lib.ListN.{length-append}
use Rattle.decimal.proofs.Fewest.{stored-then}
use Rattle.aspif.proofs.lines.put_item.Goals as goal

pub put_text-end-requires : goal.put_text-end-requires
put_text-end-requires c =
    omega (arith, rw length-append at c.requires)

pub put_number-requires : goal.put_number-requires
put_number-requires c =
    omega (arith, rw length-append at c.requires)

pub returns : goal.returns
returns c =
    stored-then c.put_text-end.ensures c.put_number.ensures
