use mathlib.Core.Path.{◌≡◌}
use lib.ListN.{length}
use Rattle.book.specs.Format.{book_in}
use Rattle.book.specs.RuleRows.{sets}
use Rattle.book.proofs.RowStores.{rows_to}
use Rattle.book.proofs.rowed.RowedBook.of.Given as goal

abbrev pub invariant-loop-r : goal.invariant-loop-r
invariant-loop-r l = (length l.rows ≡ 3072) × (sets l.rows ≡ rows_to (book_in l.book.bytes.now) l.r)
