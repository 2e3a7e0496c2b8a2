-- What a closing comes to.
--
--   ClosedTo b c d   d is the smallest closed pair that holds c, and the rules outside the book are as in c
--   ended_at n c on off   the closing of c that ends at these sets, written out: they, and the level of the closing for each rule that had
--                    no colour at its start and has one. The marks are the rules that are not off
--
-- Document 02, request 14: a closing may be left at the first contradiction, where nobody asks for its end.
--
--   left_at early p   whether it is left at sets of which p is the lowest rule in both
--   EndsAt b early c d left   the two sets end at d: the closing of c; or they were left, and whatever closes c has a contradiction
--   Ends b early c d p   what a closing of c tells: the colouring d and the contradiction p of the closing; or, where it may be left early,
--                    that the closing has a contradiction, by some rule, and c itself
use Rattle.std.specs.Prelude.{◌≡◌, Bool, true, false, List, ℕ, ◌≤◌}
use Rattle.meaning.specs.declared.RuleNo.{RuleNo}
use Rattle.meaning.specs.Books.{Book, rule_no, count}
use Rattle.meaning.specs.Colours.{Pair, Closing, clashing}
use Rattle.meaning.specs.Bits.{below, less, table_from}
use Rattle.meaning.specs.Written.{Tables, of, stamp_from, lent, pair}
use Rattle.meaning.specs.Computed.{newly, close}
use Rattle.meaning.specs.Lowest.{Pick, none, one, clashed}

pub record ClosedTo (b : Book) (c d : Pair) : Type 0 where
  pub closing : Closing b c d
  pub on-outside : (r : RuleNo) → count b ≤ r.0 → d.on r ≡ c.on r
  pub off-outside : (r : RuleNo) → count b ≤ r.0 → d.off r ≡ c.off r

abbrev pub ended_at : ℕ → Tables → List Bool → List Bool → Tables
ended_at n c on off = record {
  on = on;
  off = off;
  marks = table_from 0 256 (less (below n) (λ i. of off (rule_no i)));
  level = c.level;
  levels = stamp_from 0 n (newly (pair c) (lent on off)) c.level c.levels;
}

unfoldable pub left_at : Bool → Pick → Bool
left_at early none = false
left_at early (one r) = early

pub record EndsAt (b : Book) (early : Bool) (c d : Pair) (left : Bool) : Type 0 where
  pub closed : left ≡ false → ClosedTo b c d
  pub may : left ≡ true → early ≡ true
  pub clash : left ≡ true → (e : Pair) → Closing b c e → clashing b e ≡ true

pub data Ends (b : Book) (early : Bool) (c d : Tables) (p : Pick) : Type 0 where
  at-end : d ≡ close b c → p ≡ clashed b (pair (close b c)) → Ends b early c d p
  at_clash : early ≡ true → d ≡ c → (r : RuleNo) → p ≡ one r → clashing b (pair (close b c)) ≡ true → Ends b early c d p
