-- Readings that only differ in atoms that are not shown. A caller names the shown atoms; of readings that match on them only the first
-- counts. Request 3: "that no earlier one matches on the shown atoms".
--
--   alike s x y          x and y match on the atoms of the list s
--   shown_after b s before es   the events es with each reading that is alike one of the sets `before`, or an earlier reading of es, turned
--                        to a quiet try
--   shown_events b s      the events of the fixed walk, where only those readings count that no earlier one matches
--   ListGood b s         the list of shown atoms is strictly ascending, and each is an atom of the book
--   AllShown b s l       without a walk: the list holds of each kind of answer sets that match just the first, in the order of readings
use Rattle.std.specs.Prelude.{◌≡◌, Bool, true, ltb}
use mathlib.Core.List.{List, [], ◌∷◌, Memᴰ, map}
use Rattle.meaning.specs.declared.AtomNo.{AtomNo}
use Rattle.meaning.specs.Sets.{every, some, ascending}
use Rattle.meaning.specs.Books.{Atoms, Book}
use Rattle.meaning.specs.AnswerSet.{AnswerSet}
use Rattle.meaning.specs.Written.{nothing}
use Rattle.meaning.specs.Choice.{ifb, agree}
use Rattle.walk.specs.Events.{Event, clash, fork, reading, quiet, events}
use Rattle.walk.specs.Readings.{reading_of, Before, Ordered}

unfoldable pub alike : List AtomNo → Atoms → Atoms → Bool
alike s x y = every (λ a. agree (x a) (y a)) s

unfoldable pub shown_after : Book → List AtomNo → List Atoms → List Event → List Event
shown_after b s before [] = []
shown_after b s before (clash r ∷ es) = clash r ∷ shown_after b s before es
shown_after b s before (fork r ∷ es) = fork r ∷ shown_after b s before es
shown_after b s before (reading d ∷ es) =
    ifb (some (alike s (reading_of b d)) before) quiet (reading d) ∷ shown_after b s (reading_of b d ∷ before) es
shown_after b s before (quiet ∷ es) = quiet ∷ shown_after b s before es

unfoldable pub shown_events : Book → List AtomNo → List Event
shown_events b s = shown_after b s [] (events b nothing)

pub record ListGood (b : Book) (s : List AtomNo) : Type 0 where
  pub ascends : ascending (map (λ a. a.0) s) ≡ true
  pub in-book : every (λ a. ltb a.0 b.atoms) s ≡ true

pub record AllShown (b : Book) (s : List AtomNo) (l : List Atoms) : Type 0 where
  pub sound : (x : Atoms) → Memᴰ x l → AnswerSet b x
  pub complete : (x : Atoms) → AnswerSet b x → (y : Atoms) × Memᴰ y l × (alike s x y ≡ true)
  pub ordered : Ordered b l
  pub first : (x : Atoms) → Memᴰ x l → (y : Atoms) → AnswerSet b y → alike s x y ≡ true → Before b y x → ⊥
