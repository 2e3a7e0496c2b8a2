-- The pairs of bytes are gone through up to the first that differs, and counted.
use mathlib.Core.Path.{◌∙◌}
use Rattle.std.proofs.Common.{rules, tests, eqb, zip}
use Rattle.std.proofs.lemmas.Iterator.{YieldsList-from_slice, YieldsList-from_zip}
use Rattle.std.proofs.lemmas.Iterator.Consumers.{count_from_yields_List}
use Rattle.std.proofs.lemmas.Iterator.Search.{YieldsList-from_take_while}
use Rattle.std.proofs.lemmas.List.Folds.{length-prefix_len}
use Rattle.talk.proofs.Counted.{paired}
use Rattle.talk.proofs.part.common.Goals as goal

pub returns-clause-value : goal.returns-clause-value
returns-clause-value c =
    count_from_yields_List _ _ c.count.ensures.ran
    (YieldsList-from_take_while _ (λ p. eqb p.0 p.1)
    (YieldsList-from_zip (YieldsList-from_slice c.args.one.now cc) (YieldsList-from_slice c.args.other.now cc))
    c.take_while.ensures.closure c.take_while.ensures.done (λ x b q k. search (rules, tests)))
    ∙ length-prefix_len (λ p. eqb p.0 p.1) (zip c.args.one.now c.args.other.now) ∙ paired eqb c.args.one.now c.args.other.now
