-- What a search hands its caller determines its answer: two that are picked alike are equal.
use mathlib.Core.Path.{◌≡◌, refl, sym, ◌∙◌, ap}
use Rattle.std.specs.Prelude.{Option, Some, None}
use Rattle.meaning.specs.declared.RuleNo.{RuleNo}
use Rattle.meaning.specs.Lowest.{Pick, none, one}
use Rattle.closing.specs.Picked.{picked}

abbrev picked_at : Pick → Option RuleNo
picked_at none = None
picked_at (one r) = Some r

picked-again : (p : Option RuleNo) → picked_at (picked p) ≡ p
picked-again None = refl
picked-again (Some r) = refl

pub pick-one : (p q : Option RuleNo) → picked p ≡ picked q → p ≡ q
pick-one p q e = sym (picked-again p) ∙ ap picked_at e ∙ picked-again q
