use mathlib.Core.Path.{◌≡◌}
use mathlib.Core.Bool.{true, ◌||◌}
use Rattle.meaning.specs.Sets.{every_below}
use Rattle.meaning.specs.Books.{rule_no, rule}
use Rattle.meaning.specs.Paper.{fails}
use Rattle.meaning.specs.Bits.{listed}
use Rattle.meaning.specs.Written.{of}
use Rattle.book.specs.ReadBook.{the_book}
use Rattle.book.specs.Tables.{atoms_in}
use Rattle.checker.proofs.witness.rest_fails.Given as goal

abbrev pub invariant-loop-r : goal.invariant-loop-r
invariant-loop-r l = every_below l.r (λ n. of (listed l.set.w) (rule_no n) || fails (atoms_in l.headed) (rule (the_book l.book) (rule_no n))) ≡ true
