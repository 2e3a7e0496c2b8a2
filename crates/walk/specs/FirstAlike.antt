-- How it is decided that a reading is the first of those that match it, without a memory of earlier readings: by a walk of its own, from
-- the colouring in which every rule is off whose head is a shown atom outside the reading.
--
--   avoided b s x        the rules whose head is a shown atom outside x
--   avoiding b s x       the colouring with nothing on and these rules off
--   lost_shown b s x off  some shown atom of x has all its rules off: no answer set above such a pair is alike x
--   same_reading b x y    x and y have the same generating rules: for answer sets, they are the same set
--   Verdict              of the readings alike x in a list: there is nobody; the first is this one, x; it is another
--   first_among b s x l   the verdict on the list l
--   or_else v w           v, or w where v is nobody
--   fresh b s x          the first reading of the book that is alike x is x itself
--   counts every b s x   x counts: because every reading does, or because it is fresh
--   counted_by b p es     the events with each reading that is not in p turned to a quiet try
use Rattle.std.specs.Prelude.{Bool, true, false, not, ◌&&◌, ◌||◌, List, [], ◌∷◌, replicate}
use Rattle.meaning.specs.declared.AtomNo.{AtomNo}
use Rattle.meaning.specs.Written.{Tables}
use Rattle.meaning.specs.Sets.{Set, some}
use Rattle.meaning.specs.Books.{Atoms, Rules, same_atom, Book, rule, every_rule}
use Rattle.meaning.specs.AnswerSet.{generating}
use Rattle.meaning.specs.Colours.{all_in}
use Rattle.meaning.specs.Written.{added}
use Rattle.meaning.specs.Choice.{ifb, agree}
use Rattle.walk.specs.Events.{Event, clash, fork, reading, quiet}
use Rattle.walk.specs.Readings.{reading_of, readings}
use Rattle.walk.specs.Shown.{alike}
use Rattle.walk.specs.declared.verdict.Verdict.{Verdict}
use Rattle.walk.specs.declared.verdict.Verdict.TheVariants.{Nobody, This, Another}

unfoldable pub avoided : Book → List AtomNo → Atoms → Rules
avoided b s x r = some (λ a. same_atom (rule b r).head a && not (x a)) s

unfoldable pub avoiding : Book → List AtomNo → Atoms → Tables
avoiding b s x = record {
  on = replicate 256 false;
  off = added b (avoided b s x) (replicate 256 false);
  marks = replicate 256 false;
  level = 0;
  levels = replicate 255 0;
}

unfoldable pub lost_shown : Book → List AtomNo → Atoms → Rules → Bool
lost_shown b s x off = some (λ a. x a && all_in b off a) s

unfoldable pub same_reading : Book → Atoms → Atoms → Bool
same_reading b x y = every_rule b (λ r. agree (generating b x r) (generating b y r))

unfoldable pub first_among : Book → List AtomNo → Atoms → List Atoms → Verdict
first_among b s x [] = Nobody
first_among b s x (y ∷ l) = ifb (alike s x y) (ifb (same_reading b x y) This Another) (first_among b s x l)

unfoldable pub or_else : Verdict → Verdict → Verdict
or_else Nobody w = w
or_else This w = This
or_else Another w = Another

unfoldable pub is_this : Verdict → Bool
is_this Nobody = false
is_this This = true
is_this Another = false

unfoldable pub fresh : Book → List AtomNo → Set Atoms
fresh b s x = is_this (first_among b s x (readings b))

unfoldable pub counts : Bool → Book → List AtomNo → Set Atoms
counts every b s x = every || fresh b s x

unfoldable pub counted_by : Book → Set Atoms → List Event → List Event
counted_by b p [] = []
counted_by b p (clash r ∷ es) = clash r ∷ counted_by b p es
counted_by b p (fork r ∷ es) = fork r ∷ counted_by b p es
counted_by b p (reading d ∷ es) = ifb (p (reading_of b d)) (reading d) quiet ∷ counted_by b p es
counted_by b p (quiet ∷ es) = quiet ∷ counted_by b p es
