-- One byte is stored.
use native.Mathlib.Omega.{arith}
use Rattle.book.proofs.Puts.{puts_one}
use Rattle.book.proofs.making.write_byte.Goals as goal

pub returns : goal.returns
returns c = puts_one _ _ _ (omega arith)
