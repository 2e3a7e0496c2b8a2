-- The set that is off or listed is that of the step's condition.
use mathlib.Core.Path.{◌∙◌, ap, refl}
use mathlib.Core.List.{List, map}
use Prim.Native.Nat.{ℕ}
use Rattle.meaning.specs.Books.{rule_no}
use Rattle.meaning.specs.Bits.{listed}
use Rattle.meaning.specs.Colours.{plus}
use Rattle.meaning.specs.Written.{of}
use Rattle.checker.proofs.Conditions.{unfounded-by}
use Rattle.checker.proofs.list.is_unfounded.Goals as goal

pub returns : goal.returns
returns c =
    let s = c.args in
    c.each_starves.ensures
    ∙ unfounded-by _ (of (listed s.off.now.w)) (of (listed c.with_rules-gone.result.w)) s.list.now
    (c.with_rules-gone.ensures ∙ ap (λ (v : List ℕ). plus (of (listed v)) (map rule_no s.list.now)) refl)
