-- What both sets have is asked whether it meets the rules.
use native.Mathlib.Omega.{arith}
use mathlib.Core.Path.{ap₂, ◌∙◌, refl}
use mathlib.Core.List.{List}
use Prim.Native.Nat.{ℕ}
use Rattle.meaning.specs.Bits.{both, members}
use Rattle.checker.proofs.Conditions.{clash-asked}
use Rattle.checker.proofs.condition.is_clashing.Goals as goal

pub returns : goal.returns
returns c =
    let s = c.args in
    clash-asked s.rules (omega arith) s.on.now.w s.off.now.w _ _
    (c.intersection-both.ensures ∙ ap₂ (λ (a b : List ℕ). both (members a) (members b)) refl refl)
    c.below.ensures c.meets.ensures
