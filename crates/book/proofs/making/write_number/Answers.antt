-- Two bytes, one behind the other.
use native.Mathlib.Omega.{arith}
use Rattle.book.proofs.Puts.{puts_then}
use Rattle.book.proofs.making.write_number.Goals as goal

pub write_byte-requires : goal.write_byte-requires
write_byte-requires c = omega (arith, c.write_byte-low.ensures.ends)

pub returns : goal.returns
returns c = puts_then c.write_byte-low.ensures c.write_byte.ensures
