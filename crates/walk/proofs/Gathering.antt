-- The loops over a set of atoms (src/part.rt): what is known when all atoms below a number had their turn, at the start, after a turn and
-- at the end. Each asks the table of rows for the rules with the atom as head.
use mathlib.Core.Path.{◌≡◌, sym, ◌∙◌, ap, fun_ext}
use mathlib.Core.Logic.{◌⊎◌, inl, inr, ⊎_elim}
use mathlib.Core.Bool.{Bool, true, false, ◌&&◌, ◌||◌}
use mathlib.Core.List.{List, [], ◌∷◌}
use Prim.Native.Nat.{ℕ, ◌+◌, ◌≤◌, ◌<◌}
use native.Mathlib.Nat.{eq-or-lt_of_le}
use native.Mathlib.Omega.{arith}
use lib.ListN.{set}
use Rattle.meaning.specs.declared.RuleNo.{RuleNo}
use Rattle.meaning.specs.Sets.{Set, ◌∈◌, some_below, every_below}
use Rattle.meaning.specs.Books.{Rules, rule_no, among}
use Rattle.meaning.specs.Bits.{none, plus, both, implied, members, listed, NextIn}
use Rattle.meaning.specs.Written.{of}
use Rattle.meaning.proofs.Tests.{both as both_true, and_left, and_right, either, or_left, or_right, true-and-false, refuted, same, lt-or-le}
use Rattle.meaning.proofs.Sets.{below-some, below_one}
use Rattle.meaning.proofs.Listed.{of-listed, listed-long}
use Rattle.meaning.proofs.Rules.{among_one, one-among}
use Rattle.meaning.proofs.Written.{of-set}
use Rattle.meaning.proofs.Four.{members-small}
use Rattle.book.specs.RuleRows.{row, sets}
use Rattle.walk.specs.Search.{part_of, with_heads, lost_in}

pub sets-row : (t w : List ℕ) (k : ℕ) → w ≡ row t k → members w ≡ sets t k
unfolding sets
sets-row t w k e = ap members e

-- ---- every member of s below r had its turn

pub record Swept (s : Set ℕ) (P : ℕ → Type 0) (r : ℕ) : Type 0 where
  pub next : (from : ℕ) × NextIn s from r
  pub each : (i : ℕ) → i < r → i ∈ s → P i

module _ (s : Set ℕ) (P : ℕ → Type 0) where
  pub swept-start : (r : ℕ) → NextIn s 0 r → Swept s P r
  swept-start r n = record { next = (0, n); each = λ i l m. true-and-false m (n.passed i (omega arith) l) }

  pub swept-here : {r : ℕ} → Swept s P r → r < 256 → r ∈ s
  swept-here k h = let (from, n) = k.next in (n.within h).1

  pub swept-turn : {r m : ℕ} → Swept s P r → P r → NextIn s (r + 1) m → Swept s P m
  swept-turn {r} k p n = record {
    next = (_, n);
    each = λ i l e. ⊎_elim (λ h. k.each i h e)
        (λ h. ⊎_elim (λ (z : r ≡ i). rw (← z) p) (λ g. true-and-false e (n.passed i (omega arith) l)) (eq-or-lt_of_le h)) (lt-or-le i r);
  }

  pub swept_all : {r : ℕ} → Swept s P r → 256 ≤ r → (i : ℕ) → i < 256 → i ∈ s → P i
  swept_all k h i l m = k.each i (omega arith) m

pub swept-map : (s : Set ℕ) {P Q : ℕ → Type 0} {r : ℕ} → ((i : ℕ) → P i → Q i) → Swept s P r → Swept s Q r
swept-map s f k = record { next = k.next; each = λ i l m. f i (k.each i l m) }

-- ---- whether an atom has all its rules off

module _ (t atoms off : List ℕ) where
  abbrev pub Holding : ℕ → Type 0
  Holding = Swept (members atoms) (λ a. every_below 256 (implied (sets t a) (members off)) ≡ false)

  -- the answer for one atom, as the code asks
  asked-off : {x : Bool} (w : List ℕ) (a : ℕ) → w ≡ row t a → x ≡ every_below 256 (implied (members w) (members off))
      → x ≡ every_below 256 (implied (sets t a) (members off))
  asked-off w a e f = f ∙ ap (λ (s : Set ℕ). every_below 256 (implied s (members off))) (sets-row t w a e)

  pub lost-found : {i : ℕ} → Holding i → i < 256 → {x : Bool} (w : List ℕ) → w ≡ row t i
      → x ≡ every_below 256 (implied (members w) (members off)) → x ≡ true → true ≡ lost_in t atoms off
  unfolding lost_in
  lost-found {i} k h w e f y = sym (below_one 256 _ i h (both_true (swept-here _ _ k h) (sym (asked-off w i e f) ∙ y)))

  pub lost-turn : {i j : ℕ} → Holding i → {x : Bool} (w : List ℕ) → w ≡ row t i
      → x ≡ every_below 256 (implied (members w) (members off)) → x ≡ false → NextIn (members atoms) (i + 1) j → Holding j
  lost-turn {i} k w e f n g = swept-turn _ _ k (sym (asked-off w i e f) ∙ n) g

  pub lost-none : {i : ℕ} → Holding i → 256 ≤ i → false ≡ lost_in t atoms off
  unfolding lost_in
  lost-none k h = sym (refuted (λ e.
      let (a, l, m) = below-some 256 (λ a. members atoms a && every_below 256 (implied (sets t a) (members off))) e in
      true-and-false (and_right (members atoms a) _ m) (swept_all _ _ k h a l (and_left (members atoms a) _ m))))

-- ---- the rules with a head among the atoms

module _ (t atoms : List ℕ) where
  pub record Gathered (all : List ℕ) (i : ℕ) : Type 0 where
    pub only : (r : ℕ) → r ∈ members all → r ∈ with_heads t atoms
    pub swept : Swept (members atoms) (λ a. (r : ℕ) → r ∈ sets t a → r ∈ members all) i

  pub gathered-start : (all : List ℕ) (i : ℕ) → members all ≡ none → NextIn (members atoms) 0 i → Gathered all i
  gathered-start all i e n = record {
    only = λ r m. true-and-false m (ap (λ (s : Set ℕ). s r) e);
    swept = swept-start _ _ i n;
  }

  pub gathered-turn : (all : List ℕ) {i : ℕ} → Gathered all i → i < 256 → (w more : List ℕ) → w ≡ row t i
      → members more ≡ plus (members all) (members w) → {j : ℕ} → NextIn (members atoms) (i + 1) j → Gathered more j
  unfolding with_heads
  gathered-turn all {i} k h w more e f n = record {
    only = λ r m. ⊎_elim (k.only r)
        (λ g. below_one 256 (λ a. members atoms a && sets t a r) i h (both_true (swept-here _ _ k.swept h) (sym (of_row r) ∙ g)))
        (either (members all r) _ (sym (grown r) ∙ m));
    swept = swept-turn _ _ (swept-map _ (λ a g r m. grown r ∙ or_left _ (g r m)) k.swept)
        (λ r m. grown r ∙ or_right (members all r) (of_row r ∙ m)) n;
  }
    where
      grown : (r : ℕ) → members more r ≡ plus (members all) (members w) r
      grown r = ap (λ (s : Set ℕ). s r) f

      of_row : (r : ℕ) → members w r ≡ sets t i r
      of_row r = ap (λ (s : Set ℕ). s r) (sets-row t w i e)

  pub gathered-all : (all : List ℕ) {i : ℕ} → Gathered all i → 256 ≤ i → members all ≡ with_heads t atoms
  unfolding with_heads
  gathered-all all k h = fun_ext (λ r. same _ _ (k.only r) (λ e.
      let (a, l, m) = below-some 256 (λ a. members atoms a && sets t a r) e in
      swept_all _ _ k.swept h a l (and_left (members atoms a) _ m) r (and_right (members atoms a) _ m)))

-- ---- the atoms that are heads of on rules

-- one number more
pub put-members : (w v : List ℕ) (i : ℕ) → i < 256 → listed w ≡ set (listed v) i true
    → (i ∈ members w) × ((j : ℕ) → (j ≡ i → ⊥) → members w j ≡ members v j)
put-members w v i h e = (
  grown i ∙ or_right (members v i) (one-among (rule_no i)),
  λ j n. grown j ∙ same _ _
      (λ m. ⊎_elim (λ k. k) (λ k. absurd (n (ap (λ (r : RuleNo). r.0) (among_one k)))) (either (members v j) _ m)) (or_left _),
)
  where
    asked : (u : List ℕ) (j : ℕ) → members u j ≡ of (listed u) (rule_no j)
    asked u j = ap (λ (s : Rules). s (rule_no j)) (sym (of-listed u))

    grown : (j : ℕ) → members w j ≡ (members v j || among (rule_no i ∷ []) (rule_no j))
    grown j = asked w j ∙ ap (λ (l : List Bool). of l (rule_no j)) e
        ∙ ap (λ (s : Rules). s (rule_no j)) (of-set (listed v) (rule_no i) (omega (arith, listed-long v)))
        ∙ ap (λ (x : Bool). x || among (rule_no i ∷ []) (rule_no j)) (sym (asked v j))

module _ (t mask on : List ℕ) where
  pub record Parted (part : List ℕ) (i : ℕ) : Type 0 where
    pub only : (a : ℕ) → a ∈ members part → a ∈ part_of t mask on
    pub swept : Swept (members mask) (λ a. a ∈ part_of t mask on → a ∈ members part) i

  pub parted-start : (part : List ℕ) (i : ℕ) → members part ≡ none → NextIn (members mask) 0 i → Parted part i
  parted-start part i e n = record {
    only = λ a m. true-and-false m (ap (λ (s : Set ℕ). s a) e);
    swept = swept-start _ _ i n;
  }

  module _ (part : List ℕ) {i : ℕ} (k : Parted part i) (h : i < 256) {x : Bool} (w : List ℕ) (e : w ≡ row t i)
      (f : x ≡ some_below 256 (both (members w) (members on))) {j : ℕ} (n : NextIn (members mask) (i + 1) j) where
    asked-on : part_of t mask on i ≡ (members mask i && x)
    unfolding part_of
    asked-on = sym (ap (λ (y : Bool). members mask i && y) (f ∙ ap (λ (s : Set ℕ). some_below 256 (both s (members on))) (sets-row t w i e)))

    pub parted-skip : x ≡ false → Parted part j
    parted-skip y = record {
      only = k.only;
      swept = swept-turn _ _ k.swept (λ m. true-and-false (and_right (members mask i) _ (sym asked-on ∙ m)) y) n;
    }

    pub parted-put : x ≡ true → (more : List ℕ) → listed more ≡ set (listed part) i true → Parted more j
    parted-put y more g = record {
      only = λ a m. ⊎_elim (λ (z : a ≡ i). rw z here) (λ z. k.only a (sym (other a z) ∙ m)) (same_or_not a);
      swept = swept-turn _ _ (swept-map _ (λ a p m. stays a (p m)) k.swept) (λ m. (put-members more part i h g).0) n;
    }
      where
        here : i ∈ part_of t mask on
        here = asked-on ∙ both_true (swept-here _ _ k.swept h) y

        other : (a : ℕ) → (a ≡ i → ⊥) → members more a ≡ members part a
        other = (put-members more part i h g).1

        same_or_not : (a : ℕ) → (a ≡ i) ⊎ (a ≡ i → ⊥)
        same_or_not a = ⊎_elim (λ l. inr (λ z. omega arith))
            (λ l. ⊎_elim (λ (z : i ≡ a). inl (sym z)) (λ g. inr (λ z. omega arith)) (eq-or-lt_of_le l)) (lt-or-le a i)

        stays : (a : ℕ) → a ∈ members part → a ∈ members more
        stays a m = ⊎_elim (λ (z : a ≡ i). rw z (put-members more part i h g).0) (λ z. other a z ∙ m) (same_or_not a)

  pub parted-all : (part : List ℕ) {i : ℕ} → Parted part i → 256 ≤ i → members part ≡ part_of t mask on
  unfolding part_of
  parted-all part k h = fun_ext (λ a. same _ _ (k.only a) (λ e.
      let m = and_left (members mask a) _ e in
      swept_all _ _ k.swept h a (members-small mask a m) m e))
