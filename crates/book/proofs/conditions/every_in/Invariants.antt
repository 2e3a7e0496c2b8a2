use mathlib.Core.Path.{◌≡◌}
use mathlib.Core.List.{map}
use lib.ListN.{drop}
use Rattle.meaning.specs.Books.{atom_no}
use Rattle.meaning.specs.Sets.{every}
use Rattle.book.specs.Tables.{atoms_in}
use Rattle.book.proofs.conditions.every_in.Given as goal

abbrev pub invariant-loop-a : goal.invariant-loop-a
invariant-loop-a l =
    every (atoms_in l.table) (map atom_no l.part) ≡ every (atoms_in l.table) (map atom_no (drop l.a-index l.part))
