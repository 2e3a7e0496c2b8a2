-- Colourings and their closing. Document 01, "Colours and closing".
--
--   Pair             "A colouring is a pair of sets of rules, on and off"
--   side_of x        the side that the code names
--   side x c, put x l c   one of the two sets; the pair with the rules of a list added to it
--   start            "the start has nothing in either"
--   heads b s        the atoms that are the head of a rule in s
--   all_in b s        the atoms all of whose rules are in s ("an atom with no rule counts")
--   may_on b c        "each positive atom is the head of an on rule, and for each negative atom all rules with that head are off"
--   blocked b c      "some negative atom is the head of an on rule"
--   starved b c      "some positive atom has all its rules off"
--   Support b off v  "the smallest set V of rules such that a rule that is not off, and whose positive atoms are all heads of
--                    rules in V, is in V"
--   Closed b c       nothing can be added to the pair ("Every rule outside V goes off")
--   Closing b c d    d is the smallest closed pair that holds c
--   clashing b c     "a rule may come to be in both: that is a contradiction"
--   colouring_of b x  the pair that stands for a set of atoms: its generating rules are on, the others are off
--
-- All of it speaks of the rules of the book only.
use Rattle.std.specs.Prelude.{◌≡◌, Bool, true, false, not, ◌&&◌, ◌||◌, List, ◌⊎◌}
use Rattle.meaning.specs.declared.RuleNo.{RuleNo}
use Rattle.meaning.specs.declared.colouring.Side.TheVariants.{On, Off}
use Rattle.meaning.specs.declared.colouring.Side as code
use Rattle.meaning.specs.Sets.{◌∈◌, ◌∉◌, every, some, Smallest}
use Rattle.meaning.specs.Books.{Atoms, Rules, same_atom, among, Book, rule, InBook, every_rule, some_rule}
use Rattle.meaning.specs.AnswerSet.{generating}

pub record Pair : Type 0 where
  pub on : Rules
  pub off : Rules

pub data Side : Type 0 where
  on_side : Side
  off_side : Side

abbrev pub side_of : code.Side → Side
side_of On = on_side
side_of Off = off_side

unfoldable pub side : Side → Pair → Rules
side on_side c = c.on
side off_side c = c.off

abbrev pub plus : Rules → List RuleNo → Rules
plus s l r = s r || among l r

unfoldable pub put : Side → List RuleNo → Pair → Pair
put on_side l c = record { on = plus c.on l; off = c.off }
put off_side l c = record { on = c.on; off = plus c.off l }

abbrev pub start : Pair
start = record { on = λ r. false; off = λ r. false }

unfoldable pub heads : Book → Rules → Atoms
heads b s a = some_rule b (λ r. s r && same_atom (rule b r).head a)

unfoldable pub all_in : Book → Rules → Atoms
all_in b s a = every_rule b (λ r. not (same_atom (rule b r).head a) || s r)

unfoldable pub may_on : Book → Pair → Rules
may_on b c r = every (heads b c.on) (rule b r).pos && every (all_in b c.off) (rule b r).neg

unfoldable pub blocked : Book → Pair → Rules
blocked b c r = some (heads b c.on) (rule b r).neg

unfoldable pub starved : Book → Pair → Rules
starved b c r = some (all_in b c.off) (rule b r).pos

-- what is in s is in t, for the rules of the book
abbrev pub Under : Book → Rules → Rules → Type 0
Under b s t = (r : RuleNo) → InBook b r → r ∈ s → r ∈ t

-- v holds every rule that is not off and whose positive atoms are all heads of rules in v
abbrev pub Upheld : Book → Rules → Rules → Type 0
Upheld b off v = (r : RuleNo) → InBook b r → r ∉ off → every (heads b v) (rule b r).pos ≡ true → r ∈ v

abbrev pub Support : Book → Rules → Rules → Type 0
Support b off v = Smallest (Under b) (Upheld b off) v

pub record Closed (b : Book) (c : Pair) : Type 0 where
  pub goes_on : Under b (may_on b c) c.on
  pub goes-off-blocked : Under b (blocked b c) c.off
  pub goes-off-starved : Under b (starved b c) c.off
  pub goes-off-unsupported : (v : Rules) → Support b c.off v → (r : RuleNo) → InBook b r → r ∉ v → r ∈ c.off

pub record Within (b : Book) (c d : Pair) : Type 0 where
  pub each : (x : Side) → Under b (side x c) (side x d)

-- a closed pair that holds c
pub record ClosedAbove (b : Book) (c d : Pair) : Type 0 where
  pub above : Within b c d
  pub closed : Closed b d

abbrev pub Closing : Book → Pair → Pair → Type 0
Closing b c d = Smallest (Within b) (ClosedAbove b c) d

unfoldable pub clashing : Book → Pair → Bool
clashing b c = some_rule b (λ r. c.on r && c.off r)

-- no rule of the book is in both sets
abbrev pub Consistent : Book → Pair → Type 0
Consistent b c = (r : RuleNo) → InBook b r → r ∈ c.on → r ∈ c.off → ⊥

unfoldable pub uncoloured : Pair → Rules
uncoloured c r = not (c.on r || c.off r)

-- every rule of the book has a colour
abbrev pub Total : Book → Pair → Type 0
Total b c = (r : RuleNo) → InBook b r → (r ∈ c.on) ⊎ (r ∈ c.off)

abbrev pub colouring_of : Book → Atoms → Pair
colouring_of b x = record { on = generating b x; off = λ r. not (generating b x r) }
