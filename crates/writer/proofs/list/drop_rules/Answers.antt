-- The listed rules are put in off and written: those before the rule that is tried have been.
use mathlib.Core.Path.{sym, ap, ◌∙◌}
use native.Mathlib.Omega.{arith}
use Rattle.meaning.specs.Bits.{listed}
use Rattle.meaning.specs.declared.bitset.Bits.{Bits}
use Rattle.meaning.proofs.Listed.{listed-long}
use Rattle.writer.proofs.Lists.{dropped-none, dropped-more, dropped-same, dropped-all}
use Rattle.writer.proofs.list.drop_rules.Goals as goal
use Rattle.writer.proofs.list.drop_rules.Goals.{then-has, else-has}

pub loop-r-init : goal.loop-r-init
loop-r-init c = dropped-none _ _ _ _ (listed-long _)

pub loop-r-preserved : goal.loop-r-preserved
loop-r-preserved c =
    let d = c.loop-r.invariant in
    elim c.if-has.branch [
      | then-has w ↦ dropped-more _ _ _ _ d (omega arith) (sym c.has.ensures ∙ w.if-has.true) w.write-n.ensures (ap (λ (b : Bits). listed b.w) w.off-is ∙ w.put.ensures) w.draft-is w.n-is
      | else-has w ↦ dropped-same _ _ _ _ d (sym c.has.ensures ∙ w.if-has.false) (ap (λ (b : Bits). listed b.w) w.off-is) w.draft-is w.n-is
    ]

pub returns : goal.returns
returns c = λ b e. dropped-all _ _ _ _ c.loop-r.invariant b (omega arith)
