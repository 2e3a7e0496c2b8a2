-- Small facts by computation, so that a reader sees the definitions work: the engine's first steps on three worked books of document 01,
-- a witness, the two papers printed there, and the paper that "0 if not 0" has no reading.
use mathlib.Core.Path.{◌≡◌, refl}
use mathlib.Core.Logic.{⊎_elim}
use mathlib.Core.Bool.{true, not, ◌||◌}
use mathlib.Core.List.{List, [], ◌∷◌, ◌++◌, map}
use Prim.{tt}
use Prim.Native.Nat.{ℕ}
use native.Mathlib.Omega.{arith}
use lib.Dec.{ltb}
use borrow.Author.Tests.{ltb-true, not-true}
use Rattle.meaning.specs.declared.RuleNo.{RuleNo}
use Rattle.meaning.specs.Sets.{every, some, every_below, some_below}
use Rattle.meaning.specs.Books.{Atoms, atom_no, rule_no, same_atom, same_rule, Rule, Book, count, rule, among, every_rule, some_rule}
use Rattle.meaning.specs.AnswerSet.{generates, generating}
use Rattle.meaning.specs.Colours.{on_side, put, start, heads, all_in, may_on, blocked, uncoloured, clashing}
use Rattle.meaning.specs.declared.kind.Claim.TheVariants.{NoReading}
use Rattle.meaning.specs.Claim.{named, claimed, mark_of, mark, shown_by, shown, ended}
use Rattle.meaning.specs.Paper.{step-41, step-42, step-53, step-45, grounded, once, fails, Witness, trailer, Stated, Grounds, Keeps}
use Rattle.meaning.specs.Written.{of, add_from, added}
use Rattle.meaning.specs.Computed.{iterate, upheld, support_more, support}
use Rattle.meaning.specs.Lowest.{on_pick, one_or, lowest_from, lowest, listed_if, rules_from, rules_in}
use Rattle.meaning.specs.Engine.{puts-on, ends, drops, splits, first_of, unsupported, next, listable, listing, witness_of}
use Rattle.meaning.proofs.Tests.{either, true-and-false}
use Rattle.meaning.proofs.Sets.{every-at}
use Rattle.meaning.proofs.Rules.{among-member, every-rule-at}

-- head, positive atoms, negative atoms
abbrev rule_of : ℕ → List ℕ → List ℕ → Rule
rule_of h p n = record { head = atom_no h; pos = map atom_no p; neg = map atom_no n }

-- "Fact 0"
abbrev fact : Book
fact = record { atoms = 1; rules = rule_of 0 [] [] ∷ [] }

-- "0 if 1; 1 if 0"
abbrev circle : Book
circle = record { atoms = 2; rules = rule_of 0 (1 ∷ []) [] ∷ (rule_of 1 (0 ∷ []) [] ∷ []) }

-- "2 if 0; 2 if 1; 0 if not 1; 1 if not 0"
abbrev either_way : Book
either_way = record {
  atoms = 3;
  rules = rule_of 2 (0 ∷ []) [] ∷ (rule_of 2 (1 ∷ []) [] ∷ (rule_of 0 [] (1 ∷ []) ∷ (rule_of 1 [] (0 ∷ []) ∷ [])));
}

-- "0 if not 0"
abbrev contrary : Book
contrary = record { atoms = 1; rules = rule_of 0 [] (0 ∷ []) ∷ [] }

-- "{0,2}"
abbrev one_way : Atoms
one_way a = same_atom a (atom_no 0) || same_atom a (atom_no 2)

-- ---- the engine's steps, and its witness

-- a fact goes on and ends its branch; two rules that hold each other up are dropped together; where either way is open it splits
pub first-steps :
    (next fact (named (atom_no 0)) start ≡ puts-on (rule_no 0))
    × (next fact (named (atom_no 0)) (put on_side (rule_no 0 ∷ []) start) ≡ ends)
    × (next circle (named (atom_no 0)) start ≡ drops (rule_no 0 ∷ (rule_no 1 ∷ [])))
    × (next either_way (named (atom_no 2)) start ≡ splits (rule_no 0))
unfolding next first_of ended clashing shown shown_by heads all_in may_on blocked uncoloured put every_rule some_rule every_below some_below every some
    count rule same_atom same_rule lowest lowest_from one_or rules_in rules_from listed_if
    unsupported of add_from added iterate upheld support_more support
first-steps = (refl, refl, refl, refl)

-- each rule after what it stands on: "02 00"
pub first-witness : witness_of either_way one_way ≡ (rule_no 2 ∷ (rule_no 0 ∷ []))
unfolding witness_of listing listable on_pick lowest lowest_from one_or generating generates heads some_rule some_below every some count rule
    same_atom same_rule
first-witness = refl

-- ---- three worked papers

-- a witness by tests that can be computed
module _ (b : Book) (w : List RuleNo) where
  abbrev shown_set : Atoms
  shown_set = heads b (among w)

  tested : every (λ r. ltb r.0 (count b)) w ≡ true → grounded b [] w ≡ true → once [] w ≡ true
      → every (λ r. not (some shown_set (rule b r).neg)) w ≡ true → every_rule b (λ r. among w r || fails shown_set (rule b r)) ≡ true
      → Witness b w
  tested h g o l u = record {
    in-book = λ r m. ltb-true _ _ (every-at _ w h r (among-member w r m));
    in_order = g;
    no-rule-twice = o;
    listed = λ r m. not-true _ (every-at _ w l r (among-member w r m));
    unlisted = λ r k n. ⊎_elim (λ m. true-and-false m n) (λ e. e) (either (among w r) _ (every-rule-at b _ u r k));
  }

-- "41 00 45 | 00 | 00 01 03 00 50 46"
pub fact-paper : Keeps fact (named (atom_no 0)) (0x41 ∷ (0 ∷ (0x45 ∷ (0 ∷ (0 ∷ (1 ∷ (3 ∷ (0 ∷ (0x50 ∷ (0x46 ∷ []))))))))))
unfolding trailer claimed mark mark_of Stated Grounds ended clashing shown shown_by heads may_on put grounded once fails every_rule some_rule every_below some_below every some
    count rule same_atom same_rule
fact-paper = record {
  steps = 0x41 ∷ (0 ∷ (0x45 ∷ []));
  witness = rule_no 0 ∷ [];
  bytes = refl;
  stated = omega arith;
  branch = step-41 (rule_no 0) (omega arith) refl (step-45 refl);
  grounds = tested fact (rule_no 0 ∷ []) refl refl refl refl refl;
}

-- "53 00 45 53 01 45 53 02 41 00 45 41 03 41 01 45 | 02 00 | 02 02 10 00 50 46"
abbrev either-way-steps : List ℕ
either-way-steps =
    0x53 ∷ (0 ∷ (0x45 ∷ (0x53 ∷ (1 ∷ (0x45 ∷ (0x53 ∷ (2 ∷ (0x41 ∷ (0 ∷ (0x45 ∷ (0x41 ∷ (3 ∷ (0x41 ∷ (1 ∷ (0x45 ∷ [])))))))))))))))

pub either-way-paper : Keeps either_way (named (atom_no 2))
    (either-way-steps ++ (2 ∷ (0 ∷ (2 ∷ (2 ∷ (0x10 ∷ (0 ∷ (0x50 ∷ (0x46 ∷ [])))))))))
unfolding trailer claimed mark mark_of Stated Grounds ended clashing shown shown_by heads all_in may_on uncoloured put grounded once fails every_rule some_rule every_below
    some_below every some count rule same_atom same_rule
either-way-paper = record {
  steps = either-way-steps;
  witness = rule_no 2 ∷ (rule_no 0 ∷ []);
  bytes = refl;
  stated = omega arith;
  branch =
      step-53 (rule_no 0) (omega arith) refl (step-45 refl) (step-53 (rule_no 1) (omega arith) refl (step-45 refl)
      (step-53 (rule_no 2) (omega arith) refl (step-41 (rule_no 0) (omega arith) refl (step-45 refl))
      (step-41 (rule_no 3) (omega arith) refl (step-41 (rule_no 1) (omega arith) refl (step-45 refl)))));
  grounds = tested either_way (rule_no 2 ∷ (rule_no 0 ∷ [])) refl refl refl refl refl;
}

-- "53 00 42 00 45 41 00 45 | | 00 00 08 00 50 4e": with the rule on its own head blocks it; with it off nothing does
pub contrary-paper : Keeps contrary NoReading
    (0x53 ∷ (0 ∷ (0x42 ∷ (0 ∷ (0x45 ∷ (0x41 ∷ (0 ∷ (0x45 ∷ (0 ∷ (0 ∷ (8 ∷ (0 ∷ (0x50 ∷ (0x4e ∷ []))))))))))))))
unfolding trailer claimed mark Stated Grounds ended clashing heads all_in may_on blocked uncoloured put every_rule some_rule every_below some_below
    every some count rule same_atom same_rule
contrary-paper = record {
  steps = 0x53 ∷ (0 ∷ (0x42 ∷ (0 ∷ (0x45 ∷ (0x41 ∷ (0 ∷ (0x45 ∷ [])))))));
  witness = [];
  bytes = refl;
  stated = tt;
  branch =
      step-53 (rule_no 0) (omega arith) refl (step-42 (rule_no 0) (omega arith) refl (step-45 refl))
      (step-41 (rule_no 0) (omega arith) refl (step-45 refl));
  grounds = refl;
}
