-- Reading goes on as the text says, and each turn takes a byte.
use mathlib.Core.Path.{ap, sym, ◌∙◌}
use native.Mathlib.Omega.{arith}
use Rattle.words.proofs.Turns.{on-way, along-start}
use Rattle.words.proofs.Handing.{goes-fate}
use Rattle.words.proofs.maker.read_text.Goals as goal

pub loop-next-init : goal.loop-next-init
loop-next-init c = let e = c.begin-r.ensures in (along-start c.args.text.now _ c.args.draft.now e.0 (e.1 _ c.requires), ap (λ x. x.fate) e.0)

pub step-next-requires : goal.step-next-requires
step-next-requires c = c.loop-next.invariant

pub returns-then-not-goes_on : goal.returns-then-not-goes_on
returns-then-not-goes_on c = (c.step-next.ensures.0, sym c.goes_on.ensures ∙ c.if-not-goes_on.true)

pub loop-next-smaller : goal.loop-next-smaller
loop-next-smaller c = let a = c.step-next.ensures in let e = sym c.goes_on.ensures ∙ c.if-not-goes_on.false in let w = on-way _ _ _ a.0 (goes-fate _ e) in omega (arith, a.1 e, w.holds.inside)

pub loop-next-preserved : goal.loop-next-preserved
loop-next-preserved c = let a = c.step-next.ensures in let e = sym c.goes_on.ensures ∙ c.if-not-goes_on.false in (a.0, goes-fate _ e)
