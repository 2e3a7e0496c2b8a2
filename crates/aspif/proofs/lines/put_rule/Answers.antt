-- `put_rule` stores the pieces of a rule's line behind one another.
use mathlib.Core.Path.{◌∙◌, ap}
use native.Mathlib.Omega.{arith}
use Rattle.meaning.specs.Books.{rule}
use Rattle.book.specs.ReadBook.{the_book}
use Rattle.aspif.proofs.LinesStored.{line-long, line-stored}
use Rattle.aspif.proofs.lines.put_rule.Goals as goal

pub put_item-headed-requires : goal.put_item-headed-requires
put_item-headed-requires c =
    omega (
      arith,
      c.requires.1,
      line-long (rule (the_book c.args.book.now) c.args.r) _ _ _ (c.wide.ensures.0 ∙ ap (λ a. a.0) c.head.ensures)
          c.positives-pos.ensures c.negatives-neg.ensures,
    )

pub put_item-counted-requires : goal.put_item-counted-requires
put_item-counted-requires c =
    omega (
      arith,
      c.requires.1,
      line-long (rule (the_book c.args.book.now) c.args.r) _ _ _ (c.wide.ensures.0 ∙ ap (λ a. a.0) c.head.ensures)
          c.positives-pos.ensures c.negatives-neg.ensures,
    )

pub put_part-positive-requires : goal.put_part-positive-requires
put_part-positive-requires c =
    omega (
      arith,
      c.requires.1,
      line-long (rule (the_book c.args.book.now) c.args.r) _ _ _ (c.wide.ensures.0 ∙ ap (λ a. a.0) c.head.ensures)
          c.positives-pos.ensures c.negatives-neg.ensures,
    )

pub put_part-negative-requires : goal.put_part-negative-requires
put_part-negative-requires c =
    omega (
      arith,
      c.requires.1,
      line-long (rule (the_book c.args.book.now) c.args.r) _ _ _ (c.wide.ensures.0 ∙ ap (λ a. a.0) c.head.ensures)
          c.positives-pos.ensures c.negatives-neg.ensures,
    )

pub put_text-requires : goal.put_text-requires
put_text-requires c =
    omega (
      arith,
      c.requires.1,
      line-long (rule (the_book c.args.book.now) c.args.r) _ _ _ (c.wide.ensures.0 ∙ ap (λ a. a.0) c.head.ensures)
          c.positives-pos.ensures c.negatives-neg.ensures,
    )

pub returns : goal.returns
returns c =
    line-stored (rule (the_book c.args.book.now) c.args.r) _ _ _ (c.wide.ensures.0 ∙ ap (λ a. a.0) c.head.ensures)
    c.positives-pos.ensures c.negatives-neg.ensures
    c.put_item-headed.ensures c.put_item-counted.ensures c.put_part-positive.ensures c.put_part-negative.ensures c.put_text.ensures
