use mathlib.Core.List.{List}
use Rattle.meaning.specs.Books.{Rule}
use Rattle.book.specs.Making.{Made}
use Rattle.book.proofs.MadeIndex.{Indexed}
use Rattle.book.proofs.making.write_index.Given as goal

abbrev pub invariant-loop-rule : goal.invariant-loop-rule
invariant-loop-rule l =
    (rules : List Rule) → Made rules l.fn.m l.initial.draft → Indexed rules l.fn.m l.initial.draft l._rule l.start l.at l.draft
