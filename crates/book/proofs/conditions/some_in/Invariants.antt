use mathlib.Core.Path.{◌≡◌}
use mathlib.Core.List.{map}
use lib.ListN.{drop}
use Rattle.meaning.specs.Books.{atom_no}
use Rattle.meaning.specs.Sets.{some}
use Rattle.book.specs.Tables.{atoms_in}
use Rattle.book.proofs.conditions.some_in.Given as goal

abbrev pub invariant-loop-a : goal.invariant-loop-a
invariant-loop-a l =
    some (atoms_in l.table) (map atom_no l.part) ≡ some (atoms_in l.table) (map atom_no (drop l.a-index l.part))
