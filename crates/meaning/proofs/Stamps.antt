-- Laws of levels written out (specs/Written, specs/Computed): what is read from a list of levels after stamping, how it is stamped place by
-- place, and that stamping changes nothing where no rule gets a colour.
use mathlib.Core.Path.{◌≡◌, refl, ◌∙◌, ap}
use mathlib.Core.List.{List, [], ◌∷◌}
use Prim.Native.Nat.{ℕ, zero, suc, ◌+◌, ◌<◌}
use native.Mathlib.Nat.{not-suc-le-zero, le_of_suc-le-suc, zero-add, add-suc, suc-add, add-zero}
use borrow.Author.Tests.{not-true}
use lib.ListN.{length, get_or, set}
use lib.Seq.{get_or-set_same, get_or-set_other}
use Rattle.meaning.specs.declared.RuleNo.{RuleNo}
use Rattle.meaning.specs.Written.{Tables}
use Rattle.meaning.specs.Sets.{◌∉◌}
use Rattle.meaning.specs.Books.{Rules, rule_no}
use Rattle.meaning.specs.Choice.{ifb}
use Rattle.meaning.specs.Colours.{Pair, Side, on_side, off_side, uncoloured}
use Rattle.meaning.specs.Written.{stamp_from, level_of, chosen}
use Rattle.meaning.specs.Computed.{newly}
use Rattle.meaning.proofs.Choice.{b-no}
use Rattle.meaning.proofs.Tests.{refuted, and_left, and_right, true-and-false}

pub length-stamp : (i n : ℕ) (s : Rules) (v : ℕ) (l : List ℕ) → length (stamp_from i n s v l) ≡ length l
unfolding stamp_from
length-stamp i zero s v l = refl
length-stamp i (suc n) s v [] = refl
length-stamp i (suc n) s v (x ∷ l) = ap suc (length-stamp (suc i) n s v l)

stamp-in : (i n : ℕ) (s : Rules) (v : ℕ) (l : List ℕ) (j : ℕ) → j < n → j < length l
    → get_or (stamp_from i n s v l) j 0 ≡ ifb (s (rule_no (i + j))) v (get_or l j 0)
unfolding stamp_from
stamp-in i zero s v l j h k = absurd (not-suc-le-zero h)
stamp-in i (suc n) s v [] j h k = absurd (not-suc-le-zero k)
stamp-in i (suc n) s v (x ∷ l) zero h k = rw add-zero
stamp-in i (suc n) s v (x ∷ l) (suc j) h k =
    rw (add-suc, ← suc-add i j) (stamp-in (suc i) n s v l j (le_of_suc-le-suc h) (le_of_suc-le-suc k))

-- the level of a rule of the book
pub stamp-at : (n : ℕ) (s : Rules) (v : ℕ) (l : List ℕ) (r : RuleNo) → r.0 < n → r.0 < length l
    → get_or (stamp_from 0 n s v l) r.0 0 ≡ ifb (s r) v (get_or l r.0 0)
stamp-at n s v l r h k =
    stamp-in 0 n s v l r.0 h k ∙ ap (λ (m : ℕ). ifb (s (rule_no m)) v (get_or l r.0 0)) (zero-add r.0)

-- one place more
pub stamp-next : (i n : ℕ) (s : Rules) (v : ℕ) (l : List ℕ) → n < length l
    → set (stamp_from i n s v l) n (ifb (s (rule_no (i + n))) v (get_or (stamp_from i n s v l) n 0)) ≡ stamp_from i (suc n) s v l
unfolding stamp_from
stamp-next i n s v [] h = absurd (not-suc-le-zero h)
stamp-next i zero s v (x ∷ l) h = rw add-zero
stamp-next i (suc n) s v (x ∷ l) h =
    rw (add-suc, ← suc-add i n) (ap (λ (m : List ℕ). ifb (s (rule_no i)) v x ∷ m) (stamp-next (suc i) n s v l (le_of_suc-le-suc h)))

pub stamp-rests : (i n : ℕ) (s : Rules) (v : ℕ) (l : List ℕ) → ((r : RuleNo) → r ∉ s) → stamp_from i n s v l ≡ l
unfolding stamp_from
stamp-rests i zero s v l f = refl
stamp-rests i (suc n) s v [] f = refl
stamp-rests i (suc n) s v (x ∷ l) f = rw (stamp-rests (suc i) n s v l f, b-no _ v x (f (rule_no i)))

-- from a pair to itself no rule gets a colour
pub newly-same : (c : Pair) (r : RuleNo) → r ∉ newly c c
unfolding newly
newly-same c r = refuted (λ m. true-and-false (and_left (uncoloured c r) _ m) (not-true _ (and_right (uncoloured c r) _ m)))

-- ---- a choice

-- the chosen rule has the level of its choice, and every other rule the one that it had
module _ (r : RuleNo) (c : Tables) where
  pub level-of-chosen : (x : Side) → r.0 < length c.levels → level_of (chosen x r c) r ≡ c.level + 1
  unfolding level_of
  level-of-chosen on_side h = get_or-set_same c.levels r.0 (c.level + 1) 0 h
  level-of-chosen off_side h = get_or-set_same c.levels r.0 (c.level + 1) 0 h

  pub level-of-other : (x : Side) (q : RuleNo) → (q ≡ r → ⊥) → level_of (chosen x r c) q ≡ level_of c q
  unfolding level_of
  level-of-other on_side q n = get_or-set_other c.levels r.0 q.0 (c.level + 1) 0 (λ e. n (λ i. record { 0 = e i }))
  level-of-other off_side q n = get_or-set_other c.levels r.0 q.0 (c.level + 1) 0 (λ e. n (λ i. record { 0 = e i }))
