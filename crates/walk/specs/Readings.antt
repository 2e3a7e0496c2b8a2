-- The readings in their order. Document 01: "A reading is an answer set; two readings differ if they differ in any atom."
--
--   reading_of b d        the answer set that a colouring stands for: "the heads of its on rules"
--   readings_in b es      the readings of a list of events
--   readings b           all readings of the book, in the order of the walk
--   Agree x y            x and y are the same set
--   Before b x y         the order without a walk: the lowest rule that is generating for just one of x and y is so for x
--   Ordered b l          each set of the list comes before all later ones
--   AllReadings b l      the list holds exactly the answer sets, each once, in this order
use Rattle.std.specs.Prelude.{◌≡◌, ◌<◌}
use mathlib.Core.List.{List, [], ◌∷◌, Memᴰ}
use Rattle.meaning.specs.declared.AtomNo.{AtomNo}
use Rattle.meaning.specs.declared.RuleNo.{RuleNo}
use Rattle.meaning.specs.Written.{Tables}
use Rattle.meaning.specs.Sets.{◌∈◌, ◌∉◌}
use Rattle.meaning.specs.Books.{Atoms, Book, InBook}
use Rattle.meaning.specs.AnswerSet.{AnswerSet, generating}
use Rattle.meaning.specs.Colours.{heads}
use Rattle.meaning.specs.Written.{of, nothing}
use Rattle.walk.specs.Events.{Event, clash, fork, reading, quiet, events}

abbrev pub reading_of : Book → Tables → Atoms
reading_of b d = heads b (of d.on)

unfoldable pub readings_in : Book → List Event → List Atoms
readings_in b [] = []
readings_in b (clash r ∷ es) = readings_in b es
readings_in b (fork r ∷ es) = readings_in b es
readings_in b (reading d ∷ es) = reading_of b d ∷ readings_in b es
readings_in b (quiet ∷ es) = readings_in b es

abbrev pub readings : Book → List Atoms
readings b = readings_in b (events b nothing)

abbrev pub Agree : Atoms → Atoms → Type 0
Agree x y = (a : AtomNo) → x a ≡ y a

pub record Before (b : Book) (x y : Atoms) : Type 0 where
  pub at : RuleNo
  pub in-book : InBook b at
  pub in-first : at ∈ generating b x
  pub not-in-second : at ∉ generating b y
  pub lower-agree : (r : RuleNo) → r.0 < at.0 → generating b x r ≡ generating b y r

pub data Ordered (b : Book) : List Atoms → Type 0 where
  no_more : Ordered b []
  comes-first : {x : Atoms} {l : List Atoms} → ((y : Atoms) → Memᴰ y l → Before b x y) → Ordered b l → Ordered b (x ∷ l)

pub record AllReadings (b : Book) (l : List Atoms) : Type 0 where
  pub sound : (x : Atoms) → Memᴰ x l → AnswerSet b x
  pub complete : (x : Atoms) → AnswerSet b x → (y : Atoms) × Memᴰ y l × Agree x y
  pub ordered : Ordered b l
