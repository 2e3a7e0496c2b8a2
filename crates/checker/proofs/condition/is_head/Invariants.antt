use mathlib.Core.Path.{◌≡◌}
use mathlib.Core.Bool.{false, ◌&&◌}
use Rattle.meaning.specs.Sets.{some_below}
use Rattle.meaning.specs.Books.{rule_no, same_atom, rule}
use Rattle.meaning.specs.Bits.{listed}
use Rattle.meaning.specs.Written.{of}
use Rattle.book.specs.ReadBook.{the_book}
use Rattle.checker.proofs.condition.is_head.Given as goal

abbrev pub invariant-loop-r : goal.invariant-loop-r
invariant-loop-r l = some_below l.r (λ n. of (listed l.set.w) (rule_no n) && same_atom (rule (the_book l.book) (rule_no n)).head l.a) ≡ false
