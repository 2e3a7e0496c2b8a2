-- Worked books of document 01, each with all its answer sets, by computation: nothing is left to the reader but the rules themselves.
use mathlib.Core.Path.{◌≡◌, refl}
use mathlib.Core.Bool.{Bool, true, false}
use mathlib.Core.List.Memᴰ
use mathlib.Core.List.{List, [], ◌∷◌, map}
use Prim.Native.Nat.{ℕ, ◌≤◌}
use native.Mathlib.Omega.{arith}
use Rattle.meaning.specs.Sets.{Set, every, some, every_below, some_below}
use Rattle.meaning.specs.Books.{Atoms, atom_no, same_atom, Rule, Book, count, rule, every_rule, some_rule}
use Rattle.meaning.specs.AnswerSet.{Throughout}
use Rattle.meaning.specs.Colours.{heads}
use Rattle.meaning.specs.Choice.{ifb, agree}
use Rattle.meaning.specs.Written.{of, add_from, added}
use Rattle.meaning.specs.Computed.{iterate, upheld, support_more, support}
use Rattle.meaning.proofs.Answers.{nothing-certain}
use Rattle.meaning.proofs.LeastModel.{barred, least_model, is_answer_set}
use Rattle.meaning.proofs.Readings.{atoms_of, Exactly, tables, passing, readings, properly, readings-exact}

-- head, positive atoms, negative atoms
abbrev line : ℕ → List ℕ → List ℕ → Rule
line h p n = record { head = atom_no h; pos = map atom_no p; neg = map atom_no n }

-- document 003's six rules, p b f f' m x numbered 0 to 5
abbrev pub six : Book
six = record {
  atoms = 6;
  rules =
      line 0 [] [] ∷ line 1 (0 ∷ []) [] ∷ line 2 (1 ∷ []) (3 ∷ []) ∷ line 3 (0 ∷ []) (2 ∷ []) ∷ line 1 (4 ∷ []) []
      ∷ line 5 (2 ∷ 3 ∷ []) (5 ∷ []) ∷ [];
}

-- "0 if 1; 1 if 0"
abbrev pub circular : Book
circular = record { atoms = 2; rules = line 0 (1 ∷ []) [] ∷ line 1 (0 ∷ []) [] ∷ [] }

-- "0 if not 0"
abbrev pub contrary : Book
contrary = record { atoms = 1; rules = line 0 [] (0 ∷ []) ∷ [] }

-- "0; 1 if 0 and not 1"
abbrev pub undone : Book
undone = record { atoms = 2; rules = line 0 [] [] ∷ line 1 (0 ∷ []) (1 ∷ []) ∷ [] }

-- "0 if not 1; 1 if not 0"
abbrev pub choice : Book
choice = record { atoms = 2; rules = line 0 [] (1 ∷ []) ∷ line 1 [] (0 ∷ []) ∷ [] }

-- the tests that a book can be computed, and what is computed of it
abbrev Computed : Book → List (List Bool) → Type 0
Computed b sets = (count b ≤ 255) × (every_rule b (properly b) ≡ true) × (readings b ≡ sets)

abbrev six-sets : List (List Bool)
six-sets = (true ∷ true ∷ true ∷ false ∷ false ∷ false ∷ []) ∷ (true ∷ true ∷ false ∷ true ∷ false ∷ false ∷ []) ∷ []

abbrev choice-sets : List (List Bool)
choice-sets = (true ∷ false ∷ []) ∷ (false ∷ true ∷ []) ∷ []

computed : Computed six six-sets × Computed circular ((false ∷ false ∷ []) ∷ []) × Computed contrary [] × Computed undone []
    × Computed choice choice-sets
unfolding every some every_below some_below same_atom count rule every_rule some_rule heads ifb of add_from added
    iterate upheld support_more support barred least_model agree is_answer_set atoms_of tables passing readings properly
computed = (
  (omega arith, refl, refl),
  (omega arith, refl, refl),
  (omega arith, refl, refl),
  (omega arith, refl, refl),
  (omega arith, refl, refl),
)

exactly : (b : Book) (sets : List (List Bool)) → Computed b sets → Exactly b sets
exactly b sets (fits, tested, e) = rw (← e) (readings-exact b fits tested)

pub six-readings : Exactly six six-sets
six-readings = exactly six six-sets computed.0

-- two rules that hold each other up are not on: the empty set is the only answer set
pub circular-readings : Exactly circular ((false ∷ false ∷ []) ∷ [])
circular-readings = exactly circular _ computed.1

pub contrary-readings : Exactly contrary []
contrary-readings = exactly contrary _ computed.2

pub undone-readings : Exactly undone []
undone-readings = exactly undone _ computed.3

pub choice-readings : Exactly choice choice-sets
choice-readings = exactly choice choice-sets computed.4

-- in a book that contradicts itself nothing is certain
pub contrary-uncertain : (fact : Set Atoms) → Throughout contrary fact → ⊥
contrary-uncertain fact = nothing-certain contrary (λ x answer. Memᴰ.not-nil (contrary-readings.only x answer).1)
