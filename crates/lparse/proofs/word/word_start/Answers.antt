-- The first byte that parts nothing, or the end of the text.
use mathlib.Core.Bool.{true, false}
use mathlib.Core.Path.{◌≡◌}
use Rattle.std.proofs.Common.{rules, tests}
use Rattle.std.proofs.lemmas.Iterator.{IsFirst-from_position, YieldsList-from_slice}
use Rattle.lparse.specs.Words.{parting}
use Rattle.lparse.proofs.Words.{start-found}
use Rattle.lparse.proofs.word.word_start.Goals as goal

pub returns : goal.returns
returns c =
    let p = IsFirst-from_position _ _ _ (λ x. parting x ≡ false) (λ x. parting x ≡ true) c.position.ensures.ran (YieldsList-from_slice _ c.iter.ensures.rest) (λ x q k. search (rules, tests)) (λ x q k. search (rules, tests)) in
    let e = start-found c.args.text.now c.args.at _ p in
    (rw c.unwrap_or.ensures e, search rules)
