-- Support and closing, computed: what is defined as the smallest set of a kind is found by adding until nothing is added. Document 01:
-- "Closing repeats these until nothing is added." That each computes what it should is proved in proofs/.
--
--   iterate f n a    f, n times over
--   support b off    the set V of Support, written out
--   stamped b c d    d with the levels that a closing from c to d gives. Document 02, request 8: "for each coloured rule, the level at which it
--                    got its colour: 0 for the first closing, then one more for each choice above it"
--   close b c        the closing of a colouring; its marks are the V of its off rules
use Rattle.std.specs.Prelude.{Bool, false, not, ◌&&◌, ◌||◌, List, ℕ, zero, suc, ◌+◌, replicate}
use Rattle.meaning.specs.Written.{Tables}
use Rattle.meaning.specs.Sets.{every}
use Rattle.meaning.specs.Books.{Rules, Book, count, rule}
use Rattle.meaning.specs.Colours.{Pair, heads, may_on, blocked, starved, uncoloured}
use Rattle.meaning.specs.Written.{of, added, stamp_from, pair}

unfoldable pub iterate : {A : Type 0} → (A → A) → ℕ → A → A
iterate f zero a = a
iterate f (suc n) a = f (iterate f n a)

-- the rules that a set of rules upholds, where off are off
unfoldable pub upheld : Book → Rules → Rules → Rules
upheld b off v r = not (off r) && every (heads b v) (rule b r).pos

unfoldable pub support_more : Book → Rules → List Bool → List Bool
support_more b off v = added b (upheld b off (of v)) v

unfoldable pub support : Book → Rules → List Bool
support b off = iterate (support_more b off) (count b) (replicate 256 false)

-- the rules that go off, where v is the support
unfoldable pub goes_off : Book → Pair → Rules → Rules
goes_off b c v r = blocked b c r || (starved b c r || not (v r))

unfoldable pub close_more : Book → Tables → Tables
close_more b c =
    let v = of (support b (of c.off)) in
    record {
      on = added b (may_on b (pair c)) c.on;
      off = added b (goes_off b (pair c) v) c.off;
      marks = c.marks;
      level = c.level;
      levels = c.levels;
    }

unfoldable pub marked : Book → Tables → Tables
marked b c = record { on = c.on; off = c.off; marks = support b (of c.off); level = c.level; levels = c.levels }

-- the rules that have a colour in d and had none in c
unfoldable pub newly : Pair → Pair → Rules
newly c d r = uncoloured c r && not (uncoloured d r)

-- the levels after a closing from c to the pair d
unfoldable pub new_levels : Book → Tables → Pair → List ℕ
new_levels b c d = stamp_from 0 (count b) (newly (pair c) d) c.level c.levels

unfoldable pub stamped : Book → Tables → Tables → Tables
stamped b c d = record { on = d.on; off = d.off; marks = d.marks; level = c.level; levels = new_levels b c (pair d) }

-- no more additions can be made than there are rules and sides
unfoldable pub close : Book → Tables → Tables
close b c = stamped b c (marked b (iterate (close_more b) (count b + count b) c))
