-- The least model (blueprint M2): the heads of the rules that support each other, where just the rules with a negative atom in x are off,
-- are the smallest set closed under the reduct by x. So an answer set is its own least model, which a test decides; and the heads of a
-- closed pair in which every rule has one colour are the least model of their reduct, which is why finding need not ask.
use mathlib.Core.Path.{◌≡◌, sym, ◌∙◌, subst, fun_ext}
use mathlib.Core.Logic.{◌⊎◌, ⊎_elim, ⊎_map}
use mathlib.Core.Bool.{Bool, true}
use Prim.Native.Nat.{◌≤◌, ◌<◌}
use native.Mathlib.Omega.{arith}
use Rattle.meaning.specs.declared.AtomNo.{AtomNo}
use Rattle.meaning.specs.declared.RuleNo.{RuleNo}
use Rattle.meaning.specs.Sets.{◌∈◌, ◌∉◌, ◌⊆◌, some, every_below, Smallest}
use Rattle.meaning.specs.Books.{Atoms, Rules, atom_no, Book, count, rule, InBook}
use Rattle.meaning.specs.AnswerSet.{reduct, ClosedUnder, AnswerSet}
use Rattle.meaning.specs.Colours.{Pair, heads, Under, Upheld, Support, Closed, Total, Consistent}
use Rattle.meaning.specs.Written.{of}
use Rattle.meaning.specs.Computed.{support}
use Rattle.meaning.specs.Choice.{agree}
use Rattle.meaning.proofs.Choice.{agree-yes, agree_same}
use Rattle.meaning.proofs.Tests.{decided, true-and-false, refuted, same, lt-or-le}
use Rattle.meaning.proofs.Sets.{every-mono, below_at, below_all}
use Rattle.meaning.proofs.Least.{smallest-unique, smallest-through}
use Rattle.meaning.proofs.Rules.{heads-of, heads-by}
use Rattle.meaning.proofs.Reduct.{closed→by, by→closed}
use Rattle.meaning.proofs.Support.{support-is}
use Rattle.meaning.proofs.Answers.{total-answer}

-- every head is an atom of the book
abbrev pub Proper : Book → Type 0
Proper b = (r : RuleNo) → InBook b r → (rule b r).head.0 < b.atoms

-- the set holds atoms of the book only
abbrev pub Inside : Book → Atoms → Type 0
Inside b x = (a : AtomNo) → a ∈ x → a.0 < b.atoms

-- the rules with a negative atom in x
unfoldable pub barred : Book → Atoms → Rules
barred b x r = some x (rule b r).neg

-- the heads of the rules that support each other where just the barred rules are off
unfoldable pub least_model : Book → Atoms → Atoms
least_model b x = heads b (of (support b (barred b x)))

-- the test that x is the least model of its reduct
unfoldable pub is_answer_set : Book → Atoms → Bool
is_answer_set b x = every_below b.atoms (λ n. agree (least_model b x (atom_no n)) (x (atom_no n)))

module _ (b : Book) (x : Atoms) where
  -- the rules whose head is in y
  abbrev heading : Atoms → Rules
  heading y r = y (rule b r).head

  heading-heads : (y : Atoms) (v : Rules) → Under b v (heading y) → heads b v ⊆ y
  heading-heads y v f a e = let (r, h, m, q) = heads-by b v a e in rw q at (f r h m)

  heading-upheld : (y : Atoms) → ClosedUnder (reduct x b.rules) y → Upheld b (barred b x) (heading y)
  unfolding barred
  heading-upheld y k r h n p = closed→by b x y k r h n (every-mono (heading-heads y (heading y) (λ q g m. m)) _ p)

  pub supported-smallest : (v : Rules) → Support b (barred b x) v → Smallest (λ y z. y ⊆ z) (ClosedUnder (reduct x b.rules)) (heads b v)
  unfolding barred
  supported-smallest v s =
      smallest-through (heads b) heading s (by→closed b x _ (λ r h n p. heads-of b v r h (s.good r h n p)))
      heading-upheld (λ y f. heading-heads y v f)

module _ (b : Book) (fits : count b ≤ 255) (x : Atoms) where
  pub least-model-smallest : Smallest (λ y z. y ⊆ z) (ClosedUnder (reduct x b.rules)) (least_model b x)
  unfolding least_model
  least-model-smallest = supported-smallest b x _ (support-is b (barred b x) fits)

  pub answer→least : AnswerSet b x → (a : AtomNo) → least_model b x a ≡ x a
  answer→least answer a = let (f, g) = smallest-unique least-model-smallest answer in same _ _ (f a) (g a)

  pub least→answer : ((a : AtomNo) → least_model b x a ≡ x a) → AnswerSet b x
  least→answer f = subst (Smallest (λ y z. y ⊆ z) (ClosedUnder (reduct x b.rules))) (fun_ext f) least-model-smallest

  -- ---- the test

  least-inside : Proper b → Inside b (least_model b x)
  unfolding least_model
  least-inside proper a e = let (r, h, m, q) = heads-by b _ a e in rw q at (proper r h)

  pub answer→test : AnswerSet b x → is_answer_set b x ≡ true
  unfolding is_answer_set
  answer→test answer = below_all _ _ (λ n h. agree-yes (answer→least answer (atom_no n)))

  module _ (proper : Proper b) where
    pub answer-inside : AnswerSet b x → Inside b x
    answer-inside answer a m = least-inside proper a (answer→least answer a ∙ m)

    module _ (inside : Inside b x) where
      pub test→answer : is_answer_set b x ≡ true → AnswerSet b x
      unfolding is_answer_set
      test→answer e = least→answer (λ a. ⊎_elim
          (λ h. agree_same _ _ (below_at b.atoms _ e a.0 h))
          (λ h. none _ (least-inside proper) a h ∙ sym (none x inside a h))
          (lt-or-le a.0 b.atoms))
        where
          none : (y : Atoms) → Inside b y → (a : AtomNo) → b.atoms ≤ a.0 → a ∉ y
          none y f a h = refuted (λ m. let g = f a m in omega arith)

      pub answer-decided : AnswerSet b x ⊎ (AnswerSet b x → ⊥)
      answer-decided = ⊎_map test→answer (λ n answer. true-and-false (answer→test answer) n) (decided (is_answer_set b x))

-- ---- what finding gives: a closed pair, every rule coloured, no contradiction

module _ (b : Book) (c : Pair) (closed : Closed b c) (total : Total b c) (consistent : Consistent b c) where
  -- its heads are the smallest set that is closed under their own reduct
  pub total-smallest : Smallest (λ y z. y ⊆ z) (ClosedUnder (reduct (heads b c.on) b.rules)) (heads b c.on)
  total-smallest = total-answer b c closed total consistent

  -- so they are the least model that is computed
  pub total-least : count b ≤ 255 → (a : AtomNo) → least_model b (heads b c.on) a ≡ heads b c.on a
  total-least fits = answer→least b fits _ total-smallest
