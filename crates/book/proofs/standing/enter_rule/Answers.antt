-- The head's row, then those of the two parts.
use native.Mathlib.Omega.{arith}
use mathlib.Core.Path.{◌∙◌, ap}
use Rattle.meaning.specs.declared.AtomNo.{AtomNo}
use Rattle.book.proofs.RowStores.{rule-entered}
use Rattle.book.proofs.standing.enter_rule.Goals as goal

pub enter-requires : goal.enter-requires
enter-requires c =
    (omega (arith, c.wide.ensures.1), c.requires.1)

pub enter_part-requires : goal.enter_part-requires
enter_part-requires c = (omega arith, c.enter.ensures.1)

pub enter_part-requires-2 : goal.enter_part-requires-2
enter_part-requires-2 c = (omega arith, c.enter_part.ensures.1)

pub returns : goal.returns
returns c = (
  rule-entered _ _ _ _ _ _ _ _ _ (c.wide.ensures.0 ∙ ap (λ (a : AtomNo). a.0) c.head.ensures)
      c.positives.ensures c.negatives.ensures c.enter.ensures.0 c.enter_part.ensures.0 c.enter_part-2.ensures.0,
  c.enter_part-2.ensures.1,
)
