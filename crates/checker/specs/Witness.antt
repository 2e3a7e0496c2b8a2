-- The witness of a paper, checked. Document 01, number 27: "each byte in turn for number, repetition and positive atoms; then each byte
-- for negative atoms, both with that byte as place; last an unlisted rule, with place length - 6."
--
--   order_of b at before l        the bytes l from place `at` on, where the rules `before` are listed before them
--   blocked_of b x at l           the same bytes once more: none of these rules has a negative atom in x
--   witness_verdict b s from w    the whole witness: w bytes from place `from` of the paper s
--   grounds_verdict k b s from w  what the claim asks there: a witness; where it is that there is no answer set, that nothing is listed
use Rattle.std.specs.Prelude.{Bool, not, ◌&&◌, ◌||◌, List, [], ◌∷◌, map, ℕ, ◌+◌, ◌-◌, ltb, length, take, drop}
use Rattle.meaning.specs.declared.RuleNo.{RuleNo}
use Rattle.meaning.specs.Sets.{every, some}
use Rattle.meaning.specs.Books.{Atoms, rule_no, among, Book, count, rule, every_rule}
use Rattle.meaning.specs.Colours.{heads}
use Rattle.meaning.specs.Paper.{fails}
use Rattle.meaning.specs.declared.kind.Claim.{Claim}
use Rattle.meaning.specs.declared.kind.Claim.TheVariants.{About, NoReading}
use Rattle.meaning.specs.Choice.{ifb, if_eq}

-- nothing wrong, or the place of what is
pub data Check : Type 0 where
  fine : Check
  wrong : ℕ → Check

unfoldable pub and_then : Check → Check → Check
and_then fine c = c
and_then (wrong at) c = wrong at

-- the rule may stand behind those listed before it
unfoldable pub follows : Book → List RuleNo → ℕ → Bool
follows b before n =
    ltb n (count b) && (not (among before (rule_no n)) && every (heads b (among before)) (rule b (rule_no n)).pos)

unfoldable pub order_of : Book → ℕ → List RuleNo → List ℕ → Check
order_of b at before [] = fine
order_of b at before (n ∷ l) = ifb (follows b before n) (order_of b (at + 1) (rule_no n ∷ before) l) (wrong at)

unfoldable pub blocked_of : Book → Atoms → ℕ → List ℕ → Check
blocked_of b x at [] = fine
blocked_of b x at (n ∷ l) = ifb (some x (rule b (rule_no n)).neg) (wrong at) (blocked_of b x (at + 1) l)

-- every rule that is not listed fails in x
unfoldable pub rest_fails : Book → Atoms → List RuleNo → Bool
rest_fails b x w = every_rule b (λ r. among w r || fails x (rule b r))

unfoldable pub list_of : Book → ℕ → ℕ → List ℕ → Check
list_of b from last l =
    and_then (order_of b from [] l)
    (and_then (blocked_of b (heads b (among (map rule_no l))) from l)
    (ifb (rest_fails b (heads b (among (map rule_no l))) (map rule_no l)) fine (wrong last)))

unfoldable pub witness_verdict : Book → List ℕ → ℕ → ℕ → Check
witness_verdict b s from w = list_of b from (length s - 6) (take w (drop from s))

unfoldable pub grounds_verdict : Claim → Book → List ℕ → ℕ → ℕ → Check
grounds_verdict (About q a) b s from w = witness_verdict b s from w
grounds_verdict NoReading b s from w = if_eq w 0 fine (wrong from)
