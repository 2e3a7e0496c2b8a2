-- The lowest rule of a kind, and all rules of a kind in their order. Document 01: "the lowest uncoloured rule", "the lowest rule that
-- may go on and isn't on", "all rules outside V that aren't off"; document 02: "the lowest rule that is in both
-- sets of the fully closed pair".
use Rattle.std.specs.Prelude.{Bool, true, false, ◌&&◌, List, [], ◌∷◌, ℕ, zero, suc}
use Rattle.meaning.specs.declared.RuleNo.{RuleNo}
use Rattle.meaning.specs.Books.{Rules, rule_no, Book, count}
use Rattle.meaning.specs.Colours.{Pair}

-- no rule, or one
pub data Pick : Type 0 where
  none : Pick
  one : RuleNo → Pick

-- what is to be done without a rule, and with one
unfoldable pub on_pick : {A : Type 0} → Pick → A → (RuleNo → A) → A
on_pick none a f = a
on_pick (one r) a f = f r

unfoldable pub one_or : Bool → RuleNo → Pick → Pick
one_or true r p = one r
one_or false r p = p

-- the lowest of i, i + 1, .. , n of them, that is in s
unfoldable pub lowest_from : ℕ → ℕ → Rules → Pick
lowest_from i zero s = none
lowest_from i (suc n) s = one_or (s (rule_no i)) (rule_no i) (lowest_from (suc i) n s)

unfoldable pub lowest : Book → Rules → Pick
lowest b s = lowest_from 0 (count b) s

-- the rules in both sets of a pair
abbrev pub in_both : Pair → Rules
in_both c r = c.on r && c.off r

-- the rule that is told of a contradiction
unfoldable pub clashed : Book → Pair → Pick
clashed b c = lowest b (in_both c)

unfoldable pub listed_if : Bool → RuleNo → List RuleNo → List RuleNo
listed_if true r l = r ∷ l
listed_if false r l = l

-- those of i, i + 1, .. , n of them, that are in s
unfoldable pub rules_from : ℕ → ℕ → Rules → List RuleNo
rules_from i zero s = []
rules_from i (suc n) s = listed_if (s (rule_no i)) (rule_no i) (rules_from (suc i) n s)

unfoldable pub rules_in : Book → Rules → List RuleNo
rules_in b s = rules_from 0 (count b) s
