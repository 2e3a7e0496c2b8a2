use mathlib.Core.Path.{◌≡◌}
use mathlib.Core.Bool.{true}
use lib.ListN.{take}
use Rattle.meaning.specs.Sets.{every}
use Rattle.meaning.specs.Bits.{listed}
use Rattle.meaning.specs.Written.{of}
use Rattle.book.specs.ReadBook.{the_book}
use Rattle.checker.proofs.Conditions.{starved_by}
use Rattle.checker.proofs.list.each_starves.Given as goal

abbrev pub invariant-loop-n : goal.invariant-loop-n
invariant-loop-n l = every (starved_by (the_book l.book) (of (listed l.gone.w))) (take l.n-index l.list) ≡ true
