use lib.ListN.{drop}
use Rattle.book.specs.ReadBook.{the_book}
use Rattle.aspif.specs.Text.{rule_lines}
use Rattle.aspif.proofs.Onward.{Onward}
use Rattle.aspif.proofs.lines.put_rules.Given as goal

abbrev pub invariant-loop-r : goal.invariant-loop-r
invariant-loop-r l =
    Onward (rule_lines (the_book l.book).rules) l.at l.initial.out (rule_lines (drop l.r (the_book l.book).rules)) l.end l.out
