use mathlib.Core.Path.{◌≡◌}
use Prim.Native.Nat.{◌+◌}
use lib.ListN.{drop}
use Rattle.book.specs.ReadBook.{the_book}
use Rattle.book.specs.Tables.{atoms_in}
use Rattle.checker.specs.Witness.{blocked_of}
use Rattle.checker.proofs.witness.check_unblocked.Given as goal

abbrev pub invariant-loop-i : goal.invariant-loop-i
invariant-loop-i l = (blocked_of (the_book l.book) (atoms_in l.headed) l.from l.list ≡ blocked_of (the_book l.book) (atoms_in l.headed) (l.from + l.i) (drop l.i l.list))
