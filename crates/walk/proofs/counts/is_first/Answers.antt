-- The search starts at the colouring that avoids what the reading does not show, so its verdict tells whether the reading is fresh.
use mathlib.Core.Path.{refl, sym, ◌∙◌, ap}
use mathlib.Core.List.{List}
use Prim.Native.Nat.{ℕ}
use Rattle.meaning.specs.Bits.{less, members}
use Rattle.closing.proofs.Good.{good-book, good-few}
use Rattle.walk.proofs.Searching.{this-told, not-this}
use Rattle.walk.proofs.ShownSets.{start-shallow, start-tells}
use Rattle.walk.proofs.counts.is_first.Goals as goal

pub first_alike-verdict-requires : goal.first_alike-verdict-requires
first_alike-verdict-requires c =
    let outside = c.difference-outside.ensures ∙ ap (λ (w : List ℕ). less (members w) (members c.args.part.w)) refl in (
      start-shallow c.args.rowed.now.rowed _ _ _ c.requires.1 _ _ outside c.rules_with.ensures (good-few (good-book c.args.rowed.now.book))
          c.empty.ensures refl,
      tt,
    )

pub returns-in_default : goal.returns-in_default
returns-in_default c =
    let outside = c.difference-outside.ensures ∙ ap (λ (w : List ℕ). less (members w) (members c.args.part.w)) refl in
    not-this _ c.in_default.not-This
    ∙ sym (start-tells c.args.rowed.now.rowed _ _ _ c.requires.1 _ _ outside c.rules_with.ensures (good-few (good-book c.args.rowed.now.book))
    c.empty.ensures refl c.requires.0 c.first_alike-verdict.ensures)

pub returns-in-This : goal.returns-in-This
returns-in-This c =
    let outside = c.difference-outside.ensures ∙ ap (λ (w : List ℕ). less (members w) (members c.args.part.w)) refl in
    this-told _ c.in-This.is
    ∙ sym (start-tells c.args.rowed.now.rowed _ _ _ c.requires.1 _ _ outside c.rules_with.ensures (good-few (good-book c.args.rowed.now.book))
    c.empty.ensures refl c.requires.0 c.first_alike-verdict.ensures)
