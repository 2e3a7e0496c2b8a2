use mathlib.Core.Path.{◌≡◌}
use mathlib.Core.List.{map}
use lib.ListN.{take}
use Rattle.meaning.specs.Books.{atom_no}
use Rattle.book.specs.Tables.{atom_table}
use Rattle.crews.proofs.Moving.{moved}
use Rattle.crews.proofs.lay.move_part.Given as goal

abbrev pub invariant-loop-a : goal.invariant-loop-a
invariant-loop-a l = l.table ≡ atom_table (moved l.up (map atom_no (take l.a-index l.part)))
