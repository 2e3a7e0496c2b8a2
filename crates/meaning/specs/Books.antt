-- Rules and books. Document 01, "The meaning": "A rule has a head, positive body atoms and negative body atoms."
--
--   Atoms, Rules     sets of atoms, sets of rules: two kinds, never one for the other
--   same_atom, same_rule   the test that two numbers of one kind are equal
--   rule b r         rule number r of the book; asked only of rules in the book
--   InBook b r       "rules [are] 0 to R-1"
--   every_rule b s    every rule of the book is in s
--   some_rule b s     some rule of the book is in s
--   among l          the rules of a list
use Rattle.std.specs.Prelude.{Bool, List, [], ℕ, ◌<◌, eqb, length, get_or}
use Rattle.meaning.specs.declared.AtomNo.{AtomNo}
use Rattle.meaning.specs.declared.RuleNo.{RuleNo}
use Rattle.meaning.specs.Sets.{Set, some, every_below, some_below}

abbrev pub Atoms : Type 0
Atoms = Set AtomNo

abbrev pub Rules : Type 0
Rules = Set RuleNo

abbrev pub atom_no : ℕ → AtomNo
atom_no n = record { 0 = n }

abbrev pub rule_no : ℕ → RuleNo
rule_no n = record { 0 = n }

unfoldable pub same_atom : AtomNo → AtomNo → Bool
same_atom a c = eqb a.0 c.0

unfoldable pub same_rule : RuleNo → RuleNo → Bool
same_rule r q = eqb r.0 q.0

pub record Rule : Type 0 where
  pub head : AtomNo
  pub pos : List AtomNo
  pub neg : List AtomNo

-- "atom count A", and the rules in their order
pub record Book : Type 0 where
  pub atoms : ℕ
  pub rules : List Rule

unfoldable pub count : Book → ℕ
count b = length b.rules

unfoldable pub rule : Book → RuleNo → Rule
rule b r = get_or b.rules r.0 (record { head = atom_no 0; pos = []; neg = [] })

abbrev pub InBook : Book → RuleNo → Type 0
InBook b r = r.0 < count b

unfoldable pub every_rule : Book → Rules → Bool
every_rule b s = every_below (count b) (λ n. s (rule_no n))

unfoldable pub some_rule : Book → Rules → Bool
some_rule b s = some_below (count b) (λ n. s (rule_no n))

abbrev pub among : List RuleNo → Rules
among l r = some (same_rule r) l
