-- Small books joined, by computation, and what the laws of Joined say of them: the rules of the joined book, its answer sets, a fact
-- that is certain in its own book and not beside a book that contradicts itself, and why the first book must name only its own atoms.
use mathlib.Core.Path.{◌≡◌, refl}
use mathlib.Core.Bool.{Bool, true, false}
use mathlib.Core.List.Memᴰ
use mathlib.Core.List.{List, [], ◌∷◌, map}
use Prim.Native.Nat.{ℕ}
use native.Mathlib.Omega.{arith}
use Rattle.meaning.specs.Sets.{Set, every, some, every_below, some_below}
use Rattle.meaning.specs.Books.{Atoms, atom_no, same_atom, Rule, Book, count, rule, every_rule, some_rule}
use Rattle.meaning.specs.AnswerSet.{Throughout, Certain}
use Rattle.meaning.specs.Colours.{heads}
use Rattle.meaning.specs.Choice.{ifb, agree}
use Rattle.meaning.specs.Written.{of, add_from, added}
use Rattle.meaning.specs.Computed.{iterate, upheld, support_more, support}
use Rattle.meaning.specs.Joined.{up_rule, joined, below, own_rule, Own, SomeAnswer}
use Rattle.meaning.proofs.LeastModel.{barred, least_model, is_answer_set}
use Rattle.meaning.proofs.Readings.{atoms_of, Exactly, tables, passing, readings, properly, readings-exact}
use Rattle.meaning.proofs.Joined.{certain-first, none-in-second}
use Rattle.meaning.proofs.Cases.{contrary, choice, contrary-readings, choice-readings}

-- head, positive atoms, negative atoms
abbrev line : ℕ → List ℕ → List ℕ → Rule
line h p n = record { head = atom_no h; pos = map atom_no p; neg = map atom_no n }

abbrev pub empty : Book
empty = record { atoms = 0; rules = [] }

-- "0"
abbrev pub fact : Book
fact = record { atoms = 1; rules = line 0 [] [] ∷ [] }

-- "0; 1 if not 2; 2 if not 1", and with the books the other way round
abbrev fact-choice : Book
fact-choice = record { atoms = 3; rules = line 0 [] [] ∷ line 1 [] (2 ∷ []) ∷ line 2 [] (1 ∷ []) ∷ [] }

abbrev choice-fact : Book
choice-fact = record { atoms = 3; rules = line 0 [] (1 ∷ []) ∷ line 1 [] (0 ∷ []) ∷ line 2 [] [] ∷ [] }

-- "0" in a book of no atoms, so with an atom that is not its own, and that book beside "0 if not 0"
abbrev loose : Book
loose = record { atoms = 0; rules = line 0 [] [] ∷ [] }

abbrev loose-contrary : Book
loose-contrary = record { atoms = 1; rules = line 0 [] [] ∷ line 0 [] (0 ∷ []) ∷ [] }

pub worked : (joined fact choice ≡ fact-choice) × (joined choice fact ≡ choice-fact) × (joined empty choice ≡ choice)
    × (joined choice empty ≡ choice) × (joined loose contrary ≡ loose-contrary)
unfolding joined up_rule
worked = (refl, refl, refl, refl, refl)

pub worked-own : Own fact × Own choice × Own contrary × Own empty
unfolding every below own_rule
worked-own = (refl, refl, refl, refl)

-- "the unions of one from each": one of the fact, two of the choice
abbrev sets : List (List Bool)
sets = (true ∷ true ∷ false ∷ []) ∷ (true ∷ false ∷ true ∷ []) ∷ []

computed : (every_rule fact (properly fact) ≡ true) × (readings fact ≡ (true ∷ []) ∷ [])
    × (every_rule fact-choice (properly fact-choice) ≡ true) × (readings fact-choice ≡ sets)
    × (every_rule loose-contrary (properly loose-contrary) ≡ true) × (readings loose-contrary ≡ (true ∷ []) ∷ [])
unfolding every some every_below some_below same_atom count rule every_rule some_rule heads ifb of add_from added
    iterate upheld support_more support barred least_model agree is_answer_set atoms_of tables passing readings properly
computed = (refl, refl, refl, refl, refl, refl)

pub fact-readings : Exactly fact ((true ∷ []) ∷ [])
unfolding count
fact-readings = rw (← computed.1) (readings-exact fact (omega arith) computed.0)

pub joined-readings : Exactly (joined fact choice) sets
unfolding count
joined-readings = rw (worked.0, ← computed.3) (readings-exact fact-choice (omega arith) computed.2)

-- ---- the fact is certain beside the choice, and beside a book that contradicts itself nothing is

fact-certain : Certain fact (atom_no 0)
unfolding atoms_of
fact-certain = record {
  one = (_, fact-readings.each _ (Memᴰ.head refl));
  each = λ x answer. let (l, m, f) = fact-readings.only x answer in rw (f (atom_no 0), Memᴰ.eq_of_singleton m);
}

pub beside-choice : Certain (joined fact choice) (atom_no 0)
beside-choice =
    (certain-first fact choice worked-own.0 (atom_no 0) (omega arith)).1 (fact-certain, (_, choice-readings.each _ (Memᴰ.head refl)))

contrary-none : SomeAnswer contrary → ⊥
contrary-none (x, answer) = Memᴰ.not-nil (contrary-readings.only x answer).1

pub beside-contrary : {asked : Set Atoms} → Throughout (joined fact contrary) asked → ⊥
beside-contrary = none-in-second fact contrary worked-own.0 contrary-none

-- without Own the laws fail: the joined book has an answer set, and the second book has none
pub own-needed : SomeAnswer (joined loose contrary) × (SomeAnswer contrary → ⊥)
unfolding count
own-needed = (
  let e : Exactly loose-contrary ((true ∷ []) ∷ []) = rw (← computed.5) (readings-exact loose-contrary (omega arith) computed.4) in
      rw worked.4 (_, e.each _ (Memᴰ.head refl)),
  contrary-none,
)
