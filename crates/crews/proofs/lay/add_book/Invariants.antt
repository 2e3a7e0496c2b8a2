use Rattle.book.specs.ReadBook.{the_book}
use Rattle.book.specs.Making.{Adds}
use Rattle.crews.proofs.Moving.{moved_rules}
use Rattle.crews.proofs.lay.add_book.Given as goal

abbrev pub invariant-loop-r : goal.invariant-loop-r
invariant-loop-r l = Adds (moved_rules l.up (the_book l.book) l.r) l.initial.n l.initial.draft l.n l.draft
