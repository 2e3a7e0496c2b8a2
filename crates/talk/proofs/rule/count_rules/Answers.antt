-- The numbers of the rules that have the atom as head are filtered and counted.
use mathlib.Core.Path.{sym, ◌∙◌}
use native.Mathlib.Omega.{arith}
use Rattle.std.proofs.Common.{rules, tests}
use Rattle.std.proofs.lemmas.Iterator.{YieldsList-from_range}
use Rattle.std.proofs.lemmas.Iterator.Consumers.{YieldsList-from_filter, count_from_yields_List}
use Rattle.meaning.specs.Books.{count, rule, rule_no, same_atom}
use Rattle.book.specs.ReadBook.{the_book}
use Rattle.book.proofs.Places.{shape-count}
use Rattle.talk.specs.Counts.{has_head, rules_with}
use Rattle.talk.proofs.Counted.{counted}
use Rattle.talk.proofs.rule.count_rules.Goals as goal

pub returns : goal.returns
unfolding rules_with rule count same_atom
returns c =
    let book = c.args.book.now in
    count_from_yields_List _ _ c.count.ensures.ran
    (YieldsList-from_filter _ (λ r. has_head c.args.a (rule (the_book book) (rule_no r))) (YieldsList-from_range 0 book.shape.rules book.shape.rules (cc) (omega arith)) c.filter.ensures.closure
    (λ x r q k. search (rules, tests)))
    ∙ counted (has_head c.args.a) _ (the_book book).rules _ (sym (shape-count _ _ book.read_as))
