-- The first byte that is no blank, or the end of the text.
use mathlib.Core.Bool.{true, false}
use mathlib.Core.Path.{◌≡◌}
use Rattle.std.proofs.Common.{rules, tests}
use Rattle.std.proofs.lemmas.Iterator.{IsFirst-from_position, YieldsList-from_slice}
use Rattle.words.specs.Words.{blank}
use Rattle.words.proofs.Words.{start-found}
use Rattle.words.proofs.token.start_of.Goals as goal

pub returns : goal.returns
returns c =
    let p = IsFirst-from_position _ _ _ (λ x. blank x ≡ false) (λ x. blank x ≡ true) c.position.ensures.ran (YieldsList-from_slice _ c.iter.ensures.rest) (λ x q k. search (rules, tests)) (λ x q k. search (rules, tests)) in
    let e = start-found c.args.text.now c.args.at _ p in
    (rw c.unwrap_or.ensures e, search rules)
