-- The order of readings (blueprint W8): of two answer sets that differ, one comes before the other, and a list in this order has no set
-- twice and is the only one with its members. The rule that decides is the lowest that is generating for just one of the two.
use mathlib.Core.Path.{◌≡◌, refl, sym, ◌∙◌, subst, fun_ext}
use mathlib.Core.Logic.{◌⊎◌, inl, inr, ⊎_elim, ⊎_map}
use mathlib.Core.Bool.{Bool, true, false, not}
use mathlib.Core.List.Memᴰ
use mathlib.Core.List.{List, [], ◌∷◌, ◌++◌, Memᴰ}
use Prim.Native.Nat.{ℕ, zero, suc, ◌≤◌, ◌<◌}
use native.Mathlib.Nat.{eq-or-lt_of_le, le_of_suc-le-suc}
use native.Mathlib.Omega.{arith}
use lib.ListN.{length, get_or}
use borrow.Author.Tests.{not-true, not-false}
use Rattle.meaning.specs.declared.RuleNo.{RuleNo}
use Rattle.meaning.specs.Sets.{◌∉◌}
use Rattle.meaning.specs.Books.{Atoms, Rules, Book, InBook}
use Rattle.meaning.specs.AnswerSet.{AnswerSet, generating}
use Rattle.meaning.specs.Choice.{agree}
use Rattle.meaning.specs.Lowest.{Pick, none, one, lowest}
use Rattle.meaning.proofs.Tests.{true-and-false, same, lt-or-le}
use Rattle.meaning.proofs.Rules.{heads-mono}
use Rattle.meaning.proofs.Lowest.{lowest-one, lowest-none}
use Rattle.meaning.proofs.Answers.{answer-heads}
use Rattle.meaning.proofs.Choice.{agree_same}
use Rattle.walk.specs.Readings.{Agree, Before, Ordered, no_more, comes-first, AllReadings}

-- two tests that do not agree
differ : (p q : Bool) → agree p q ≡ false → ((p ≡ true) × (q ≡ false)) ⊎ ((p ≡ false) × (q ≡ true))
unfolding agree
differ true q e = inl (refl, e)
differ false q e = inr (refl, not-false q e)

module _ (b : Book) where
  pub before-irreflexive : (x : Atoms) → Before b x x → ⊥
  before-irreflexive x p = true-and-false p.in-first p.not-in-second

  pub before-transitive : {x y z : Atoms} → Before b x y → Before b y z → Before b x z
  before-transitive {x} {y} {z} p q = ⊎_elim
      (λ h. record {
        at = p.at;
        in-book = p.in-book;
        in-first = p.in-first;
        not-in-second = sym (q.lower-agree p.at h) ∙ p.not-in-second;
        lower-agree = λ r l. p.lower-agree r l ∙ q.lower-agree r (omega arith);
      })
      (λ h. let l = earlier h in record {
        at = q.at;
        in-book = q.in-book;
        in-first = p.lower-agree q.at l ∙ q.in-first;
        not-in-second = q.not-in-second;
        lower-agree = λ r k. p.lower-agree r (omega arith) ∙ q.lower-agree r k;
      })
      (lt-or-le p.at.0 q.at.0)
    where
      -- y has the rule of the second, and not that of the first
      earlier : q.at.0 ≤ p.at.0 → q.at.0 < p.at.0
      earlier h = ⊎_elim (λ e. let z : q.at ≡ p.at = (λ i. record { 0 = e i }) in true-and-false (rw z at q.in-first) p.not-in-second)
          (λ l. l) (eq-or-lt_of_le h)

  -- the lowest rule that is generating for just one, if there is any
  pub before-or-agree : (x y : Atoms) → AnswerSet b x → AnswerSet b y → Agree x y ⊎ (Before b x y ⊎ Before b y x)
  before-or-agree x y p q = go (lowest b differing) refl
    where
      differing : Rules
      differing r = not (agree (generating b x r) (generating b y r))

      alike : (r : RuleNo) → r ∉ differing → generating b x r ≡ generating b y r
      alike r e = agree_same _ _ (not-false _ e)

      all_alike : ((r : RuleNo) → InBook b r → generating b x r ≡ generating b y r) → Agree x y
      all_alike f a = sym (answer-heads b x p a) ∙ same _ _
          (heads-mono b (λ r h m. sym (f r h) ∙ m) a) (heads-mono b (λ r h m. f r h ∙ m) a) ∙ answer-heads b y q a

      go : (k : Pick) → lowest b differing ≡ k → Agree x y ⊎ (Before b x y ⊎ Before b y x)
      go none e = inl (all_alike (λ r h. alike r (lowest-none b _ e r h)))
      go (one r) e = let (h, m, f) = lowest-one b _ r e in inr (⊎_map
          (λ (i, o). record { at = r; in-book = h; in-first = i; not-in-second = o; lower-agree = λ u l. alike u (f u l) })
          (λ (o, i). record { at = r; in-book = h; in-first = i; not-in-second = o; lower-agree = λ u l. sym (alike u (f u l)) })
          (differ _ _ (not-true _ m)))

  pub before-total : (x y : Atoms) → AnswerSet b x → AnswerSet b y → (Agree x y → ⊥) → Before b x y ⊎ Before b y x
  before-total x y p q n = ⊎_elim (λ e. absurd (n e)) (λ h. h) (before-or-agree x y p q)

  -- ---- lists in this order

  pub ordered-append : {l m : List Atoms} → Ordered b l → Ordered b m
      → ((x : Atoms) → Memᴰ x l → (y : Atoms) → Memᴰ y m → Before b x y) → Ordered b (l ++ m)
  ordered-append no_more o f = o
  ordered-append (comes-first {l = l} g k) o f = comes-first
      (λ y e. ⊎_elim (g y) (f _ (Memᴰ.head refl) y) (Memᴰ.append_cases l e))
      (ordered-append k o (λ x e. f x (Memᴰ.tail e)))

  -- a set at an earlier place comes before one at a later place
  ordered-places : (l : List Atoms) → Ordered b l → (i j : ℕ) (z : Atoms) → i < j → j < length l → Before b (get_or l i z) (get_or l j z)
  ordered-places (x ∷ l) (comes-first f o) zero (suc j) z h k = f _ (place l j (le_of_suc-le-suc k))
    where
      place : (l : List Atoms) (j : ℕ) → j < length l → Memᴰ (get_or l j z) l
      place [] j h = absurd (omega arith)
      place (x ∷ l) zero h = Memᴰ.head refl
      place (x ∷ l) (suc j) h = Memᴰ.tail (place l j (le_of_suc-le-suc h))
  ordered-places (x ∷ l) (comes-first f o) (suc i) (suc j) z h k = ordered-places l o i j z (le_of_suc-le-suc h) (le_of_suc-le-suc k)
  ordered-places l o i zero z h k = absurd (omega arith)
  ordered-places [] o i (suc j) z h k = absurd (omega arith)

  pub ordered-once : (l : List Atoms) → Ordered b l → (i j : ℕ) (z : Atoms) → i < j → j < length l → Agree (get_or l i z) (get_or l j z) → ⊥
  ordered-once l o i j z h k e = before-irreflexive _ (subst (Before b (get_or l i z)) (sym (fun_ext e)) (ordered-places l o i j z h k))

  -- ---- the only list with its members

  abbrev pub Holds : List Atoms → List Atoms → Type 0
  Holds m l = (x : Atoms) → Memᴰ x l → Memᴰ x m

  module _ {x y : Atoms} {l m : List Atoms} (f : (z : Atoms) → Memᴰ z l → Before b x z) (u : Holds (y ∷ m) (x ∷ l)) where
    -- the first of both is the same
    same_first : ((z : Atoms) → Memᴰ z m → Before b y z) → Holds (x ∷ l) (y ∷ m) → x ≡ y
    same_first g v = ⊎_elim (λ e. e)
        (λ p. ⊎_elim sym (λ q. absurd (before-irreflexive x (before-transitive (f y q) (g x p))))
        (Memᴰ.cases_cons (v y (Memᴰ.head refl))))
        (Memᴰ.cases_cons (u x (Memᴰ.head refl)))

    -- then the others of the one are among the others of the other
    same-later : x ≡ y → Holds m l
    same-later e z k = ⊎_elim (λ q. absurd (before-irreflexive x (subst (Before b x) (q ∙ sym e) (f z k)))) (λ n. n)
        (Memᴰ.cases_cons (u z (Memᴰ.tail k)))

  pub ordered_same : (l m : List Atoms) → Ordered b l → Ordered b m → Holds m l → Holds l m → l ≡ m
  ordered_same [] [] o p u v = refl
  ordered_same [] (y ∷ m) o p u v = absurd (Memᴰ.not-nil (v y (Memᴰ.head refl)))
  ordered_same (x ∷ l) [] o p u v = absurd (Memᴰ.not-nil (u x (Memᴰ.head refl)))
  ordered_same (x ∷ l) (y ∷ m) (comes-first f o) (comes-first g p) u v =
      let e = same_first f u g v in
      let k = ordered_same l m o p (same-later f u e) (same-later g v (sym e)) in
      λ i. e i ∷ k i

  readings-hold : {l m : List Atoms} → AllReadings b l → AllReadings b m → Holds m l
  readings-hold p q x k = let (y, n, e) = q.complete x (p.sound x k) in Memᴰ.cast (fun_ext e) n

  pub readings-only : (l m : List Atoms) → AllReadings b l → AllReadings b m → l ≡ m
  readings-only l m p q = ordered_same l m p.ordered q.ordered (readings-hold p q) (readings-hold q p)
