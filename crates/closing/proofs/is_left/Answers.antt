-- Not where it may not be left, nor where no rule is in both sets.
use mathlib.Core.Path.{ap₂, ◌∙◌, refl}
use mathlib.Core.List.{List}
use Prim.Native.Nat.{ℕ}
use borrow.Author.Rules.{rules}
use Rattle.meaning.specs.Bits.{listed}
use Rattle.meaning.specs.Written.{lent}
use Rattle.meaning.specs.Lowest.{lowest_from, in_both}
use Rattle.closing.proofs.Leaving.{not_left, left_told}
use Rattle.closing.proofs.is_left.Goals as goal

pub returns-then-early : goal.returns-then-early
returns-then-early c =
    let a = c.args in
    let found = c.lowest_clash.ensures ∙ ap₂ (λ (on off : List ℕ). lowest_from 0 a.rules (in_both (lent (listed on) (listed off)))) refl refl in
    left_told c.if-early.true _ found (search rules)

pub returns-else-early : goal.returns-else-early
returns-else-early c = not_left _ c.if-early.false
