-- The no_mo_re way of choosing. Document 02, request 6, after Theorem 15 of document 003: "close without support, choose the lowest uncoloured
-- rule among those whose positive atoms are all heads of on rules, on first, then off; when none is left, colour the rest off and test with
-- one more closing that adds nothing and finds no contradiction. That test counts as one try."
--
--   supported b c    the rules without a colour whose positive atoms are all heads of on rules
--   rest_off b d      the colouring with all rules of the book that have no colour put in off
--   test_of b e       the try that tests e, in which every rule has a colour: what closing without support adds to it is then on both sides,
--                    so "adds nothing" and "finds no contradiction" are one
--   own_from b c      the events of this walk when it starts at the colouring c; a try without a rule to choose is quiet, and its test is
--                    another try
--   own_events b      those of the walk from the empty colouring, over which k and the limit are read
--   Apart l          no set of the list agrees with a later one
--   SameSets b l     the list holds exactly the answer sets of the book, each once; in which order is not said
use Rattle.std.specs.Prelude.{◌&&◌, ℕ, zero, suc}
use mathlib.Core.List.{List, [], ◌∷◌, ◌++◌, Memᴰ}
use Rattle.meaning.specs.Sets.{every}
use Rattle.meaning.specs.Books.{Atoms, Rules, Book, count, rule}
use Rattle.meaning.specs.AnswerSet.{AnswerSet}
use Rattle.meaning.specs.Colours.{Pair, heads, uncoloured}
use Rattle.meaning.specs.Written.{Tables, added, nothing, colour_on, colour_off, pair}
use Rattle.meaning.specs.Lowest.{Pick, none, one, lowest, clashed}
use Rattle.meaning.specs.Propagation.{propagate}
use Rattle.walk.specs.Events.{Event, clash, fork, quiet, reading}
use Rattle.walk.specs.Readings.{Agree}

unfoldable pub supported : Book → Pair → Rules
supported b c r = uncoloured c r && every (heads b c.on) (rule b r).pos

unfoldable pub rest_off : Book → Tables → Tables
rest_off b d = record {
  on = d.on;
  off = added b (uncoloured (pair d)) d.off;
  marks = d.marks;
  level = d.level;
  levels = d.levels;
}

-- by the rule that closing without support brings to both sides, if there is one
unfoldable pub tested : Tables → Pick → List Event
tested e (one q) = clash q ∷ []
tested e none = reading e ∷ []

abbrev pub test_of : Book → Tables → List Event
test_of b e = tested e (clashed b (pair (propagate b e)))

-- after closing without support gave d: its lowest rule in both sets, its lowest supported rule, and the walk below
unfoldable pub own_after : Book → Tables → Pick → Pick → (Tables → List Event) → List Event
own_after b d (one q) p further = clash q ∷ []
own_after b d none (one r) further = fork r ∷ (further (colour_on r d) ++ further (colour_off r d))
own_after b d none none further = quiet ∷ test_of b (rest_off b d)

abbrev pub own_after_propagating : Book → Tables → (Tables → List Event) → List Event
own_after_propagating b d further = own_after b d (clashed b (pair d)) (lowest b (supported b (pair d))) further

-- through at most n levels
unfoldable pub own_in : ℕ → Book → Tables → List Event
own_in zero b c = []
own_in (suc n) b c = own_after_propagating b (propagate b c) (λ d. own_in n b d)

-- each level colours a rule, so one level more than there are rules is enough
unfoldable pub own_from : Book → Tables → List Event
own_from b c = own_in (suc (count b)) b c

unfoldable pub own_events : Book → List Event
own_events b = own_from b nothing

pub data Apart : List Atoms → Type 0 where
  no_more : Apart []
  differs : {x : Atoms} {l : List Atoms} → ((y : Atoms) → Memᴰ y l → Agree x y → ⊥) → Apart l → Apart (x ∷ l)

pub record SameSets (b : Book) (l : List Atoms) : Type 0 where
  pub sound : (x : Atoms) → Memᴰ x l → AnswerSet b x
  pub complete : (x : Atoms) → AnswerSet b x → (y : Atoms) × Memᴰ y l × Agree x y
  pub once : Apart l
