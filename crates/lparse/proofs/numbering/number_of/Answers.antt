-- The smaller atoms are filtered and counted.
use mathlib.Core.Path.{◌∙◌}
use Rattle.std.proofs.Common.{rules, tests, ltb}
use Rattle.std.proofs.lemmas.Iterator.{YieldsList-from_slice}
use Rattle.std.proofs.lemmas.Iterator.Consumers.{YieldsList-from_filter, count_from_yields_List}
use Rattle.lparse.proofs.Counted.{counted}
use Rattle.lparse.proofs.numbering.number_of.Goals as goal

pub returns : goal.returns
returns c =
    count_from_yields_List _ _ c.count.ensures.ran (YieldsList-from_filter _ (λ x. ltb x c.args.a.0) (YieldsList-from_slice c.args.seen.now cc) c.filter.ensures.closure (λ x r q k. search (rules, tests)))
    ∙ counted c.args.a c.args.seen.now
