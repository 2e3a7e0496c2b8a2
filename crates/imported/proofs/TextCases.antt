-- The choice rule's own definition on two short texts, from the definition alone: of `{ a }.` both ways are answer sets, and of `{ a } :- a.`
-- only "out" is.
use mathlib.Core.Path.{◌≡◌, refl}
use mathlib.Core.Bool.{Bool, true, false}
use mathlib.Core.List.{List, [], ◌∷◌, ◌++◌, map}
use Rattle.meaning.specs.Sets.{◌∉◌, every, some}
use Rattle.meaning.specs.Choice.{ifb}
use Rattle.meaning.proofs.Tests.{and_left, true-and-false, refuted}
use Rattle.imported.specs.declared.TextAtom.{TextAtom}
use Rattle.imported.specs.Text.{TextAtoms, same_text, choice, Text}
use Rattle.imported.specs.Answers.{those, given, reduct_of, holds, TextClosed, TextAnswerSet}
use Rattle.imported.proofs.Numbers.{same_text-true}

abbrev a : TextAtom
a = record { 0 = 2 }

-- one choice with the head a and this body
abbrev free : List TextAtom → Text
free pos = record { rules = choice (a ∷ []) pos [] ∷ []; table = []; plus = []; minus = [] }

abbrev nothing : TextAtoms
nothing c = false

pub free-out : TextAnswerSet (free []) nothing
unfolding every some ifb those given reduct_of
free-out = record { good = refl; least = λ z closed c m. true-and-false m refl }

pub free_in : TextAnswerSet (free []) (same_text a)
unfolding every some ifb same_text those given reduct_of holds
free_in = record { good = refl; least = λ z closed c m. let e : a ≡ c = same_text-true m in rw e at (and_left (z a) true closed) }

-- where a is in, all that is given is "a if a", and the empty set is closed under that
leaning-closed : (y : TextAtoms) → TextClosed (reduct_of y (free (a ∷ [])).rules) nothing
unfolding every some ifb those given reduct_of holds
leaning-closed y = go (y a)
  where
    go : (held : Bool) → every (holds nothing) (map (λ h. record { head = h; body = a ∷ [] }) (ifb held (a ∷ []) []) ++ []) ≡ true
    go true = refl
    go false = refl

pub leaning-out : (y : TextAtoms) → TextAnswerSet (free (a ∷ [])) y → (c : TextAtom) → c ∉ y
leaning-out y answer c = refuted (λ m. true-and-false (answer.least nothing (leaning-closed y) c m) refl)
