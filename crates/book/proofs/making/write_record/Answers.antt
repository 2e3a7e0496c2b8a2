-- A record: its head, its two counts and its two parts, one behind the other.
use native.Mathlib.Omega.{arith}
use lib.ListN.{length-map}
use Rattle.book.specs.Writing.{record_bytes}
use Rattle.book.specs.Making.{listed}
use Rattle.book.proofs.Puts.{puts_then, puts-as}
use Rattle.book.proofs.making.write_record.Goals as goal

pub write_atoms-requires : goal.write_atoms-requires
write_atoms-requires c =
    let a = c.args in
    omega (
      arith,
      c.requires.0,
      c.requires.1,
      c.requires.2,
      c.write_byte-headed.ensures.ends,
      c.write_byte-first.ensures.ends,
      c.write_byte-second.ensures.ends,
      c.write_atoms-middle.ensures.ends,
      length-map (listed a.pos.now) (λ x. x.0),
    )

pub returns : goal.returns
unfolding record_bytes
returns c =
    puts_then c.write_byte-headed.ensures
    (puts_then (puts-as c.count_atoms.ensures c.write_byte-first.ensures)
    (puts_then (puts-as c.count_atoms-2.ensures c.write_byte-second.ensures)
    (puts_then c.write_atoms-middle.ensures c.write_atoms.ensures)))
