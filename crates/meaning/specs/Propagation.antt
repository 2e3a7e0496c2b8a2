-- Propagation: closing without support. Document 003, Definitions 4 and 5. Closing is propagation and support in turn. The three conditions are those of closing (specs/Colours).
--
--   Propagated b c         no rule that may go on is left that is not on, and none that is blocked or starved is left that is not off
--   PropagatedAbove b c d  d is such a pair and holds c
--   Propagation b c d      d is the smallest propagated pair that holds c
--   propagate b c          it, computed from a colouring: by rounds, as closing is; the marks and the levels stay
use Rattle.std.specs.Prelude.{◌||◌, ◌+◌}
use Rattle.meaning.specs.Written.{Tables}
use Rattle.meaning.specs.Sets.{Smallest}
use Rattle.meaning.specs.Books.{Rules, Book, count}
use Rattle.meaning.specs.Colours.{Pair, may_on, blocked, starved, Under, Within}
use Rattle.meaning.specs.Written.{added, pair}
use Rattle.meaning.specs.Computed.{iterate}

pub record Propagated (b : Book) (c : Pair) : Type 0 where
  pub goes_on : Under b (may_on b c) c.on
  pub goes-off-blocked : Under b (blocked b c) c.off
  pub goes-off-starved : Under b (starved b c) c.off

pub record PropagatedAbove (b : Book) (c d : Pair) : Type 0 where
  pub above : Within b c d
  pub propagated : Propagated b d

abbrev pub Propagation : Book → Pair → Pair → Type 0
Propagation b c d = Smallest (Within b) (PropagatedAbove b c) d

-- the rules that go off for an atom of their body
unfoldable pub may_off : Book → Pair → Rules
may_off b c r = blocked b c r || starved b c r

unfoldable pub propagate_more : Book → Tables → Tables
propagate_more b c =
    record {
      on = added b (may_on b (pair c)) c.on;
      off = added b (may_off b (pair c)) c.off;
      marks = c.marks;
      level = c.level;
      levels = c.levels;
    }

-- no more additions can be made than there are rules and sides
unfoldable pub propagate : Book → Tables → Tables
propagate b c = iterate (propagate_more b) (count b + count b) c
