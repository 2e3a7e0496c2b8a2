-- The rules of the book in the one set are in the other, and back.
use mathlib.Core.Path.{◌∙◌}
use native.Mathlib.Omega.{arith}
use Rattle.walk.proofs.SameRules.{rules-differ, rules-same}
use Rattle.walk.proofs.search.same_rules.Goals as goal

pub returns-else-is_within : goal.returns-else-is_within
returns-else-is_within c =
    c.if-is_within.false ∙ rules-differ _ (omega (arith, c.ranges.rules.fits)) _ c.below-all.ensures _ _ _
    c.intersection.ensures c.is_within.ensures c.if-is_within.false

pub returns-then-is_within : goal.returns-then-is_within
returns-then-is_within c =
    rules-same _ (omega (arith, c.ranges.rules.fits)) _ c.below-all.ensures _ _ _ c.intersection.ensures _
    c.intersection-then-is_within.ensures c.is_within.ensures c.if-is_within.true c.is_within-then-is_within.ensures
