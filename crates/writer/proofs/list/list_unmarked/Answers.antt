-- The rules that are neither marked nor off are found: the array holds those before the rule that is tried, and m counts them.
use mathlib.Core.Path.{sym, ap, ◌∙◌}
use Prim.Native.Nat.{ℕ}
use lib.ListN.{replicate}
use native.Mathlib.Omega.{arith}
use Rattle.meaning.specs.Bits.{listed}
use Rattle.meaning.specs.declared.bitset.Bits.{Bits}
use Rattle.meaning.proofs.Four.{members-nothing}
use Rattle.meaning.proofs.Listed.{listed-empty}
use Rattle.writer.proofs.Lists.{found_none, found-more, found-same, found_all, outside-yes, outside-off, outside-marked}
use Rattle.writer.proofs.list.list_unmarked.Goals as goal
use Rattle.writer.proofs.list.list_unmarked.Goals.{then-not-has+then-not-has-2, else-not-has}
use Rattle.writer.proofs.list.list_unmarked.Goals.{else-not-has-via-then-not-has+else-not-has-2, else-not-has-via-else-not-has}

pub loop-r-init : goal.loop-r-init
loop-r-init c = found_none _ _ (listed-empty (replicate {A = ℕ} 4 0) members-nothing)

pub loop-r-preserved : goal.loop-r-preserved
loop-r-preserved c =
    let d = c.loop-r.invariant in
    elim c.if-not-has.branch [
      | then-not-has+then-not-has-2 w ↦
          found-more _ d (omega arith) (outside-yes _ _ _ (sym c.has.ensures ∙ w.if-not-has.true) (sym w.has-then-not-has.ensures ∙ w.if-not-has-2.true))
          (ap (λ (b : Bits). listed b.w) w.dropped-is ∙ w.put.ensures) w.m-is
      | else-not-has w ↦ elim w.else-not-has.branch [
        | else-not-has-via-then-not-has+else-not-has-2 v ↦
            found-same _ d (outside-off _ _ _ (sym v.has-then-not-has.ensures ∙ v.if-not-has-2.false)) (ap (λ (b : Bits). listed b.w) w.dropped-is) w.m-is
        | else-not-has-via-else-not-has v ↦
            found-same _ d (outside-marked _ _ _ (sym c.has.ensures ∙ v.if-not-has.false)) (ap (λ (b : Bits). listed b.w) w.dropped-is) w.m-is
      ]
    ]

pub returns : goal.returns
returns c = λ b e. found_all _ c.loop-r.invariant b (omega arith)
