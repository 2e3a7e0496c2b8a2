-- The atom is no head of the rules that are not in the set.
use mathlib.Core.Path.{◌∙◌, ap, sym, refl}
use mathlib.Core.List.{List}
use Prim.Native.Nat.{ℕ}
use Rattle.meaning.specs.Bits.{less, members}
use Rattle.book.proofs.Places.{shape-count}
use Rattle.checker.proofs.Conditions.{lost-asked}
use Rattle.checker.proofs.condition.is_lost.Goals as goal

pub returns : goal.returns
returns c =
    lost-asked _ _ (sym (shape-count _ _ c.args.book.now.read_as)) c.args.set.now.w _ _ c.below.ensures
    (c.difference-others.ensures ∙ ap (λ (s : List ℕ). less (members c.below.result.w) (members s)) refl) _ c.is_head.ensures
