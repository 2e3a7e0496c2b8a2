-- One step of a paper, checked. Document 01, "The paper" and numbers 24 and 25: at each step 24 before 25.
--
--   step_of b k s from at c   the step at byte `at` of the paper s, whose witness starts at `from`, with the pair c
use Rattle.std.specs.Prelude.{Bool, ◌&&◌, List, [], ◌∷◌, map, ℕ, ◌+◌, ltb, get_or, take, drop}
use Rattle.meaning.specs.declared.RuleNo.{RuleNo}
use Rattle.meaning.specs.Sets.{every, ascending}
use Rattle.meaning.specs.Books.{rule_no, Book, count}
use Rattle.meaning.specs.Colours.{Pair, on_side, off_side, put, may_on, blocked, uncoloured}
use Rattle.meaning.specs.declared.kind.Claim.{Claim}
use Rattle.meaning.specs.Claim.{ended}
use Rattle.meaning.specs.Paper.{unfounded, code_on, code_off, code_unfounded, code_split, code_end}
use Rattle.meaning.specs.Choice.{ifb, if_lt, if_eq}

-- the branch goes on at a place with a pair; parts on a rule, with its first branch at a place; ends before a place; or the step is
-- refused with a number
pub data Stepped : Type 0 where
  goes : ℕ → Pair → Stepped
  parts : ℕ → RuleNo → Stepped
  ends : ℕ → Stepped
  fails : ℕ → Stepped

-- the step's rule, one byte after its code: "rule not below R", "passing it"
unfoldable pub with_rule : Book → List ℕ → ℕ → ℕ → (RuleNo → Stepped) → Stepped
with_rule b s from at f = if_lt (at + 1) from (if_lt (get_or s (at + 1) 0) (count b) (f (rule_no (get_or s (at + 1) 0))) (fails 24)) (fails 24)

-- "bad list": not strictly ascending, or a rule not below R
unfoldable pub proper_list : Book → List ℕ → Bool
proper_list b l = ascending l && every (λ n. ltb n (count b)) l

-- the step's list of rules: m, at least 1, and m rules before the witness
unfoldable pub with_list : Book → List ℕ → ℕ → ℕ → ℕ → (List RuleNo → Stepped) → Stepped
with_list b s from at m f =
    if_lt 0 m
    (if_lt from (at + 2 + m) (fails 24)
    (ifb (proper_list b (take m (drop (at + 2) s))) (f (map rule_no (take m (drop (at + 2) s)))) (fails 24)))
    (fails 24)

unfoldable pub step_by : Book → Claim → List ℕ → ℕ → ℕ → Pair → ℕ → Stepped
step_by b k s from at c code =
    if_eq code code_on (with_rule b s from at (λ r. ifb (may_on b c r) (goes (at + 2) (put on_side (r ∷ []) c)) (fails 25)))
    (if_eq code code_off (with_rule b s from at (λ r. ifb (blocked b c r) (goes (at + 2) (put off_side (r ∷ []) c)) (fails 25)))
    (if_eq code code_unfounded
    (if_lt (at + 1) from
    (with_list b s from at (get_or s (at + 1) 0)
    (λ w. ifb (unfounded b c.off w) (goes (at + 2 + get_or s (at + 1) 0) (put off_side w c)) (fails 25)))
    (fails 24))
    (if_eq code code_split (with_rule b s from at (λ r. ifb (uncoloured c r) (parts (at + 2) r) (fails 25)))
    (if_eq code code_end (ifb (ended b k c) (ends (at + 1)) (fails 25)) (fails 24)))))

-- "a step due at the witness start" is 24 there
unfoldable pub step_of : Book → Claim → List ℕ → ℕ → ℕ → Pair → Stepped
step_of b k s from at c = if_lt at from (step_by b k s from at c (get_or s at 0)) (fails 24)
