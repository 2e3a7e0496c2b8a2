-- Pass after pass, until no suspect is to be looked at again (Clearing). A pass that leaves one has added a rule.
use mathlib.Core.Path.{refl, ◌∙◌}
use Rattle.meaning.specs.Books.{atom_no, rule_no}
use Rattle.closing.proofs.Falling.{at-rule}
use Rattle.closing.proofs.Propagating.{none_in, one_in}
use Rattle.closing.proofs.Clearing.{clearing-start, clearing-more, clearing-end, swept-less}
use Rattle.closing.proofs.cleared.clear.Goals as goal

pub loop-cand-init : goal.loop-cand-init
loop-cand-init c = clearing-start _ _ _ _ refl

pub returns-then-is_within : goal.returns-then-is_within
returns-then-is_within c =
    let cand = c.try_suspects.new.cand.w in
    clearing-end (clearing-more c.loop-cand.invariant c.try_suspects.ensures.0 c.try_suspects.ensures.1) (λ q. at-rule cand refl q
    ∙ none_in cand _ c.empty.result.w refl c.empty.ensures
    c.is_within.ensures c.if-is_within.true (atom_no q.0))

pub loop-cand-smaller : goal.loop-cand-smaller
loop-cand-smaller c =
    let cand = c.try_suspects.new.cand.w in
    let (a, m) = one_in cand _ c.empty.result.w refl c.empty.ensures
    c.is_within.ensures c.if-is_within.false in
    swept-less c.try_suspects.ensures.0 (rule_no a.0) (at-rule cand refl (rule_no a.0) ∙ m)

pub loop-cand-preserved : goal.loop-cand-preserved
loop-cand-preserved c = clearing-more c.loop-cand.invariant c.try_suspects.ensures.0 c.try_suspects.ensures.1
