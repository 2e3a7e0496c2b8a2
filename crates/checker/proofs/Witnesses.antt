-- The witness: the function of specs/Witness finds nothing wrong exactly if the bytes are a Witness of the meaning. By recursion on the
-- bytes for the two passes, with the rules listed before them. Document 01, "The paper" and number 27.
use mathlib.Core.Path.{◌≡◌, refl, ◌∙◌, ap}
use mathlib.Core.Logic.{⊎_elim}
use mathlib.Core.Bool.{Bool, true, false, not}
use mathlib.Core.List.{List, [], ◌∷◌, map, Memᴰ}
use Prim.Native.Nat.{ℕ, ◌+◌, ◌<◌}
use native.Mathlib.Omega.{arith}
use lib.Dec.{ltb}
use lib.ListN.{take, drop}
use borrow.Author.Tests.{ltb-true, lt-ltb, not-true}
use Rattle.meaning.specs.declared.RuleNo.{RuleNo}
use Rattle.meaning.specs.Sets.{◌∉◌, every, some}
use Rattle.meaning.specs.Books.{Atoms, rule_no, among, Book, count, rule, InBook}
use Rattle.meaning.specs.Colours.{heads}
use Rattle.meaning.specs.Paper.{grounded, once, fails, Witness}
use Rattle.meaning.specs.Choice.{ifb}
use Rattle.meaning.proofs.Choice.{b-yes, b-no, b-either}
use Rattle.meaning.proofs.Tests.{both, and_left, and_right, either, or_left, or_right, decided, true-and-false}
use Rattle.meaning.proofs.Rules.{every-rule-at, every-rule-all}
use Rattle.checker.specs.Witness.{Check, fine, wrong, and_then, follows, order_of, blocked_of, rest_fails, list_of, witness_verdict}
use Rattle.checker.specs.Places.{Follows}
use Rattle.checker.proofs.Bytes.{number-member, member-rule}

-- ---- what a check's answer says

not-fine : {A : Type 0} {at : ℕ} → wrong at ≡ fine → A
not-fine e = let z : ◌≡◌ {A = ℕ} 0 1 = cc in absurd (omega arith)

fine-yes : (t : Bool) (at : ℕ) (c : Check) → ifb t c (wrong at) ≡ fine → (t ≡ true) × (c ≡ fine)
fine-yes t at c = b-either (λ x. x ≡ fine → (t ≡ true) × (c ≡ fine)) t c (wrong at) (λ p e. (p, e)) (λ p e. not-fine e)

fine-no : (t : Bool) (at : ℕ) (c : Check) → ifb t (wrong at) c ≡ fine → (t ≡ false) × (c ≡ fine)
fine-no t at c = b-either (λ x. x ≡ fine → (t ≡ false) × (c ≡ fine)) t (wrong at) c (λ p e. not-fine e) (λ p e. (p, e))

pub then-both : (c d : Check) → and_then c d ≡ fine → (c ≡ fine) × (d ≡ fine)
unfolding and_then
then-both fine d e = (refl, e)
then-both (wrong at) d e = not-fine e

-- ---- one listed rule

module _ (b : Book) (before : List RuleNo) (n : ℕ) where
  pub follows-yes : follows b before n ≡ true → Follows b (among before) n
  unfolding follows
  follows-yes e =
      let f = and_right (ltb n (count b)) _ e in
      record {
        below = ltb-true _ _ (and_left _ _ e);
        new = not-true _ (and_left (not (among before (rule_no n))) _ f);
        held = and_right (not (among before (rule_no n))) _ f;
      }

  pub yes-follows : Follows b (among before) n → follows b before n ≡ true
  unfolding follows
  yes-follows m = both (lt-ltb _ _ m.below) (both (ap not m.new) m.held)

module _ (b : Book) where
  -- ---- the first pass

  record Ordered (before : List RuleNo) (l : List ℕ) : Type 0 where
    below : (n : ℕ) → Memᴰ n l → n < count b
    held : grounded b before (map rule_no l) ≡ true
    new : once before (map rule_no l) ≡ true

  order-fine : (at : ℕ) (before : List RuleNo) (l : List ℕ) → order_of b at before l ≡ fine → Ordered before l
  unfolding order_of grounded once
  order-fine at before [] e = record { below = λ n m. elim m [ ]; held = refl; new = refl }
  order-fine at before (n ∷ l) e =
      let (p, q) = fine-yes _ _ _ e in
      let m = follows-yes b before n p in
      let o = order-fine (at + 1) (rule_no n ∷ before) l q in
      record { below = below m.below o.below; held = both m.held o.held; new = both (ap not m.new) o.new }
    where
      below : n < count b → ((i : ℕ) → Memᴰ i l → i < count b) → (i : ℕ) → Memᴰ i (n ∷ l) → i < count b
      below h f i (Memᴰ.head p) = rw p h
      below h f i (Memᴰ.tail m) = f i m

  fine-order : (at : ℕ) (before : List RuleNo) (l : List ℕ) → Ordered before l → order_of b at before l ≡ fine
  unfolding order_of grounded once
  fine-order at before [] o = refl
  fine-order at before (n ∷ l) o = b-yes _ _ _ (yes-follows b before n here) ∙ fine-order (at + 1) (rule_no n ∷ before) l rest
    where
      here : Follows b (among before) n
      here = record {
        below = o.below n (Memᴰ.head refl);
        new = not-true _ (and_left (not (among before (rule_no n))) _ o.new);
        held = and_left (every (heads b (among before)) _) _ o.held;
      }

      rest : Ordered (rule_no n ∷ before) l
      rest = record {
        below = λ i m. o.below i (Memᴰ.tail m);
        held = and_right (every (heads b (among before)) _) _ o.held;
        new = and_right (not (among before (rule_no n))) _ o.new;
      }

  -- ---- the second pass

  module _ (x : Atoms) where
    blocked-fine : (at : ℕ) (l : List ℕ) → blocked_of b x at l ≡ fine → (n : ℕ) → Memᴰ n l → some x (rule b (rule_no n)).neg ≡ false
    unfolding blocked_of
    blocked-fine at [] e i h = elim h [ ]
    blocked-fine at (n ∷ l) e i (Memᴰ.head p) = rw p (fine-no _ _ _ e).0
    blocked-fine at (n ∷ l) e i (Memᴰ.tail m) = blocked-fine (at + 1) l (fine-no _ _ _ e).1 i m

    fine-blocked : (at : ℕ) (l : List ℕ) → ((n : ℕ) → Memᴰ n l → some x (rule b (rule_no n)).neg ≡ false) → blocked_of b x at l ≡ fine
    unfolding blocked_of
    fine-blocked at [] f = refl
    fine-blocked at (n ∷ l) f =
        b-no _ _ _ (f n (Memᴰ.head refl)) ∙ fine-blocked (at + 1) l (λ i m. f i (Memᴰ.tail m))

    -- ---- the rules that are not listed

    rest_all : (w : List RuleNo) → rest_fails b x w ≡ true → (r : RuleNo) → InBook b r → r ∉ among w → fails x (rule b r) ≡ true
    unfolding rest_fails
    rest_all w e r h n = ⊎_elim (λ m. true-and-false m n) (λ p. p) (either (among w r) _ (every-rule-at b _ e r h))

    all_rest : (w : List RuleNo) → ((r : RuleNo) → InBook b r → r ∉ among w → fails x (rule b r) ≡ true) → rest_fails b x w ≡ true
    unfolding rest_fails
    all_rest w f = every-rule-all b _ (λ r h. ⊎_elim (λ m. or_left _ m) (λ n. or_right (among w r) (f r h n)) (decided (among w r)))

  -- ---- the whole witness

  pub fine-witness : (s : List ℕ) (from w : ℕ) → witness_verdict b s from w ≡ fine → Witness b (map rule_no (take w (drop from s)))
  unfolding witness_verdict list_of
  fine-witness s from w e =
      let l = take w (drop from s) in
      let x = heads b (among (map rule_no l)) in
      let (p, e₁) = then-both _ _ e in
      let (q, e₂) = then-both _ _ e₁ in
      let o = order-fine from [] l p in
      record {
        in-book = λ r m. o.below r.0 (number-member l r m);
        in_order = o.held;
        no-rule-twice = o.new;
        listed = λ r m. blocked-fine x from l q r.0 (number-member l r m);
        unlisted = rest_all x (map rule_no l) (fine-yes _ _ _ e₂).0;
      }

  pub witness-fine : (s : List ℕ) (from w : ℕ) → Witness b (map rule_no (take w (drop from s))) → witness_verdict b s from w ≡ fine
  unfolding witness_verdict list_of and_then
  witness-fine s from w g = rw (fine-order from [] l o, fine-blocked x from l (λ n m. g.listed (rule_no n) (member-rule l n m)))
      (b-yes _ _ _ (all_rest x (map rule_no l) g.unlisted))
    where
      l : List ℕ
      l = take w (drop from s)

      x : Atoms
      x = heads b (among (map rule_no l))

      o : Ordered [] l
      o = record { below = λ n m. g.in-book (rule_no n) (member-rule l n m); held = g.in_order; new = g.no-rule-twice }
