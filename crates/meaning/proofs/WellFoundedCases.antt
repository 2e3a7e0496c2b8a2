-- The well-founded models of worked books of document 01, by computation: any two sets that are a well-founded model of the book say this
-- of its atoms, the first which are true, the second which are not false.
use mathlib.Core.Path.{◌≡◌, refl, ◌∙◌, ap, fun_ext}
use mathlib.Core.Bool.{Bool, true, false}
use mathlib.Core.List.{List, [], ◌∷◌}
use Prim.Native.Nat.{ℕ, zero, suc, ◌≤◌}
use native.Mathlib.Omega.{arith}
use Rattle.meaning.specs.Sets.{every, some, every_below, some_below}
use Rattle.meaning.specs.Books.{Atoms, atom_no, same_atom, Book, count, rule, every_rule, some_rule}
use Rattle.meaning.specs.WellFounded.{WellFounded}
use Rattle.meaning.specs.Colours.{heads, all_in, may_on, blocked, starved}
use Rattle.meaning.specs.Written.{of, add_from, added, nothing}
use Rattle.meaning.specs.Computed.{iterate, upheld, support_more, support, goes_off, close_more, marked, stamped, close}
use Rattle.meaning.proofs.Cases.{six, circular, contrary, undone, choice}
use Rattle.meaning.proofs.Alternates.{open_heads}
use Rattle.meaning.proofs.WellFounded.{well-founded-one, first-closing-well-founded}

-- what a set says of n atoms, of which the first is a
unfoldable pub said : ℕ → ℕ → Atoms → List Bool
said a zero x = []
said a (suc n) x = x (atom_no a) ∷ said (suc a) n x

abbrev truths : Book → List Bool
truths b = said 0 b.atoms (heads b (of (close b nothing).on))

abbrev possibles : Book → List Bool
possibles b = said 0 b.atoms (open_heads b (of (close b nothing).off))

abbrev Told : Book → List Bool → List Bool → Type 0
Told b l m = (t p : Atoms) → WellFounded b t p → (said 0 b.atoms t ≡ l) × (said 0 b.atoms p ≡ m)

-- the tests that a book can be computed, and what is computed of it
abbrev Settled : Book → List Bool → List Bool → Type 0
Settled b l m = (count b ≤ 255) × (truths b ≡ l) × (possibles b ≡ m)

told : (b : Book) (l m : List Bool) → Settled b l m → Told b l m
told b l m (fits, e, f) t p w =
    let same = well-founded-one b w (first-closing-well-founded b fits) in
    (ap (said 0 b.atoms) (fun_ext (λ a. (same a).0)) ∙ e, ap (said 0 b.atoms) (fun_ext (λ a. (same a).1)) ∙ f)

abbrev six-true : List Bool
six-true = true ∷ true ∷ false ∷ false ∷ false ∷ false ∷ []

abbrev six-possible : List Bool
six-possible = true ∷ true ∷ true ∷ true ∷ false ∷ true ∷ []

settled : Settled six six-true six-possible × Settled circular (false ∷ false ∷ []) (false ∷ false ∷ [])
    × Settled contrary (false ∷ []) (true ∷ []) × Settled undone (true ∷ false ∷ []) (true ∷ true ∷ [])
    × Settled choice (false ∷ false ∷ []) (true ∷ true ∷ [])
unfolding every some every_below some_below same_atom count rule every_rule some_rule heads all_in may_on blocked starved of add_from added
    iterate upheld support_more support goes_off close_more marked stamped close said
settled = (
  (omega arith, refl, refl),
  (omega arith, refl, refl),
  (omega arith, refl, refl),
  (omega arith, refl, refl),
  (omega arith, refl, refl),
)

-- 0 and 1 are true, 4 is false, the others are open
pub six-settled : Told six six-true six-possible
six-settled = told six _ _ settled.0

-- two rules that hold each other up: both atoms are false
pub circular-settled : Told circular (false ∷ false ∷ []) (false ∷ false ∷ [])
circular-settled = told circular _ _ settled.1

pub contrary-settled : Told contrary (false ∷ []) (true ∷ [])
contrary-settled = told contrary _ _ settled.2

-- 0 is true, and there is no answer set: settled is not certain
pub undone-settled : Told undone (true ∷ false ∷ []) (true ∷ true ∷ [])
undone-settled = told undone _ _ settled.3

pub choice-settled : Told choice (false ∷ false ∷ []) (true ∷ true ∷ [])
choice-settled = told choice _ _ settled.4
