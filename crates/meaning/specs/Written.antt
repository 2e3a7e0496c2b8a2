-- Sets of rules written out: place r of a list of 256 says whether rule r is in the set. By such tables every operation is defined, and
-- every promise about a colouring is one about the tables that it stands for. Of on and off, places from R on are never touched; closing
-- replaces the marks.
--
--   Tables           a colouring written out
--   written c        the tables that a colouring of bit sets stands for
--   of l             the set that a list stands for
--   added b s l      the list with the rules of the book that are in s added
--   stamp_from        the list of levels with that of the rules in s replaced
--   nothing          the empty tables
--   coloured on off  the tables of two sets of rules alone, with no marks and no levels
--   colour_on r c, colour_off r c, colour x r c   the colouring with rule r put in on, in off, on side x
--   chosen x r c     the choice of a walk: rule r put on one side, one level deeper. Document 02, request 8: "a chosen rule has the level of
--                    its choice"
--   level_of c r      the level at which rule r got its colour, 0 before it has one
--   lent on off      the pair of sets that two lists stand for, each lent by itself
--   pair c           the pair of sets that a colouring stands for
use Rattle.std.specs.Prelude.{Bool, true, false, ◌||◌, List, [], ◌∷◌, ℕ, zero, suc, ◌+◌, get_or, set, replicate}
use Rattle.meaning.specs.declared.RuleNo.{RuleNo}
use Rattle.meaning.specs.declared.colouring.Colouring.{Colouring}
use Rattle.meaning.specs.Sets.{Set}
use Rattle.meaning.specs.Books.{Rules, rule_no, Book, count}
use Rattle.meaning.specs.Choice.{ifb}
use Rattle.meaning.specs.Colours.{Pair, Side, on_side, off_side}
use Rattle.meaning.specs.Bits.{listed}

pub record Tables : Type 0 where
  pub on : List Bool
  pub off : List Bool
  pub marks : List Bool
  pub level : ℕ
  pub levels : List ℕ

abbrev pub written : Colouring → Tables
written c =
    record { on = listed c.on.w; off = listed c.off.w; marks = listed c.marks.w; level = c.level; levels = c.levels }

unfoldable pub of : List Bool → Rules
of l r = get_or l r.0 false

-- n places more, of which the first is place i
unfoldable pub add_from : ℕ → ℕ → Set ℕ → List Bool → List Bool
add_from i zero s l = l
add_from i (suc n) s [] = []
add_from i (suc n) s (x ∷ l) = (x || s i) ∷ add_from (suc i) n s l

unfoldable pub added : Book → Rules → List Bool → List Bool
added b s l = add_from 0 (count b) (λ n. s (rule_no n)) l

-- the same for levels: each rule of s among n, of which the first is i, gets the level v
unfoldable pub stamp_from : ℕ → ℕ → Rules → ℕ → List ℕ → List ℕ
stamp_from i zero s v l = l
stamp_from i (suc n) s v [] = []
stamp_from i (suc n) s v (x ∷ l) = ifb (s (rule_no i)) v x ∷ stamp_from (suc i) n s v l

unfoldable pub level_of : Tables → RuleNo → ℕ
level_of c r = get_or c.levels r.0 0

abbrev pub nothing : Tables
nothing = record {
  on = replicate 256 false;
  off = replicate 256 false;
  marks = replicate 256 false;
  level = 0;
  levels = replicate 255 0;
}

abbrev pub coloured : List Bool → List Bool → Tables
coloured on off = record { on = on; off = off; marks = nothing.marks; level = 0; levels = nothing.levels }

abbrev pub colour_on : RuleNo → Tables → Tables
colour_on r c = record { on = set c.on r.0 true; off = c.off; marks = c.marks; level = c.level; levels = c.levels }

abbrev pub colour_off : RuleNo → Tables → Tables
colour_off r c = record { on = c.on; off = set c.off r.0 true; marks = c.marks; level = c.level; levels = c.levels }

abbrev pub colour : Side → RuleNo → Tables → Tables
colour on_side r c = colour_on r c
colour off_side r c = colour_off r c

-- one choice more, of which r has the level
abbrev deeper : RuleNo → Tables → Tables
deeper r c = record {
  on = c.on;
  off = c.off;
  marks = c.marks;
  level = c.level + 1;
  levels = set c.levels r.0 (c.level + 1);
}

abbrev pub chosen : Side → RuleNo → Tables → Tables
chosen on_side r c = deeper r (colour_on r c)
chosen off_side r c = deeper r (colour_off r c)

abbrev pub lent : List Bool → List Bool → Pair
lent on off = record { on = of on; off = of off }

abbrev pub pair : Tables → Pair
pair c = lent c.on c.off
