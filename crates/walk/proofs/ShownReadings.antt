-- The readings that count where only some atoms are shown (demand 2, request 3): they are the answer sets with no alike one before them, so
-- the one list that AllShown describes. The idea: of a list in the order of readings, a member is dropped exactly if an earlier one is
-- alike it, and earlier means before.
use mathlib.Core.Path.{◌≡◌, refl, sym, ◌∙◌, ap, subst, fun_ext}
use mathlib.Core.Logic.{◌⊎◌, inl, inr, ⊎_elim}
use mathlib.Core.Bool.{Bool, true, false}
use mathlib.Core.List.Memᴰ
use mathlib.Core.List.{List, [], ◌∷◌, Memᴰ}
use Prim.Native.Nat.{ℕ, zero, suc, ◌≤◌, ◌<◌}
use native.Mathlib.Nat.{le_of_suc-le-suc}
use native.Mathlib.Omega.{arith}
use lib.ListN.{length, get_or}
use Rattle.meaning.specs.declared.AtomNo.{AtomNo}
use Rattle.meaning.specs.Sets.{some}
use Rattle.meaning.specs.Books.{Atoms, Book, count}
use Rattle.meaning.specs.AnswerSet.{AnswerSet}
use Rattle.meaning.specs.Written.{nothing}
use Rattle.meaning.specs.Choice.{ifb}
use Rattle.meaning.proofs.Tests.{true-and-false, decided, either, neither_left, neither_right, lt-or-le}
use Rattle.meaning.proofs.Sets.{some_one, some-by}
use Rattle.walk.specs.Events.{Event, clash, fork, reading, quiet, events}
use Rattle.walk.specs.Readings.{reading_of, readings_in, readings, Before, Ordered, comes-first}
use Rattle.walk.specs.Shown.{alike, shown_after, shown_events, AllShown}
use Rattle.walk.proofs.Order.{before-irreflexive, before-transitive, before-or-agree, Holds, ordered_same, ordered-once}
use Rattle.walk.proofs.Readings.{readings-all}
use Rattle.walk.proofs.Alike.{alike_all, alike_refl, alike-sym, alike-trans}

-- ---- the members of a list that no earlier one matches

-- the list l, and x in front of it where the test fails
unfoldable pub unless : Bool → Atoms → List Atoms → List Atoms
unless true x l = l
unless false x l = x ∷ l

-- those that none of the sets before, and no earlier member, is alike
unfoldable pub firsts_after : List AtomNo → List Atoms → List Atoms → List Atoms
firsts_after s before [] = []
firsts_after s before (x ∷ l) = unless (some (alike s x) before) x (firsts_after s (x ∷ before) l)

module _ (x : Atoms) (l : List Atoms) where
  pub unless-by : (t : Bool) (y : Atoms) → Memᴰ y (unless t x l) → ((t ≡ false) × (y ≡ x)) ⊎ Memᴰ y l
  unfolding unless
  unless-by true y m = inr m
  unless-by false y m = ⊎_elim (λ e. inl (refl, e)) inr (Memᴰ.cases_cons m)

  pub unless-later : (t : Bool) (y : Atoms) → Memᴰ y l → Memᴰ y (unless t x l)
  unfolding unless
  unless-later true y m = m
  unless-later false y m = Memᴰ.tail m

  pub unless-here : (t : Bool) → t ≡ false → Memᴰ x (unless t x l)
  unfolding unless
  unless-here true e = true-and-false refl e
  unless-here false e = Memᴰ.head refl

module _ (s : List AtomNo) where
  pub firsts-member : (before l : List Atoms) (x : Atoms) → Memᴰ x (firsts_after s before l) → Memᴰ x l
  unfolding firsts_after
  firsts-member before [] x m = m
  firsts-member before (y ∷ l) x m = ⊎_elim
      (λ (t, e). Memᴰ.head e) (λ k. Memᴰ.tail (firsts-member (y ∷ before) l x k)) (unless-by y _ _ x m)

  firsts-new : (before l : List Atoms) (x : Atoms) → Memᴰ x (firsts_after s before l) → some (alike s x) before ≡ false
  unfolding firsts_after some
  firsts-new before [] x m = absurd (Memᴰ.not-nil m)
  firsts-new before (y ∷ l) x m = ⊎_elim
      (λ (t, e). rw e t) (λ k. neither_right (alike s x y) _ (firsts-new (y ∷ before) l x k)) (unless-by y _ _ x m)

  -- a set that is alike one of the sets before
  some_alike : (before : List Atoms) (x y : Atoms) → alike s x y ≡ true → some (alike s y) before ≡ true → some (alike s x) before ≡ true
  some_alike before x y e k =
      let (z, m, f) = some-by _ before k in some_one _ before z m (alike-trans s x y z e f)

  firsts-complete : (before l : List Atoms) (x : Atoms) → Memᴰ x l
      → (some (alike s x) before ≡ true) ⊎ ((y : Atoms) × Memᴰ y (firsts_after s before l) × (alike s x y ≡ true))
  unfolding firsts_after some
  firsts-complete before [] x m = absurd (Memᴰ.not-nil m)
  firsts-complete before (z ∷ l) x m = ⊎_elim
      (λ (e : x ≡ z). rw e (to-here z (alike_refl s z)))
      (λ k. ⊎_elim (λ h. ⊎_elim (to-here x) inl (either (alike s x z) _ h)) (λ (y, n, f). inr (y, unless-later z _ _ y n, f))
      (firsts-complete (z ∷ before) l x k))
      (Memᴰ.cases_cons m)
    where
      Found : Atoms → Type 0
      Found x = (some (alike s x) before ≡ true)
          ⊎ ((y : Atoms) × Memᴰ y (unless (some (alike s z) before) z (firsts_after s (z ∷ before) l)) × (alike s x y ≡ true))

      to-here : (x : Atoms) → alike s x z ≡ true → Found x
      to-here x e = ⊎_elim (λ t. inl (some_alike before x z e t)) (λ t. inr (z, unless-here z _ _ t, e)) (decided (some (alike s z) before))

  module _ (b : Book) where
    firsts-ordered : (before l : List Atoms) → Ordered b l → Ordered b (firsts_after s before l)
    unfolding firsts_after unless
    firsts-ordered before [] o = o
    firsts-ordered before (x ∷ l) (comes-first f o) = go (some (alike s x) before) (firsts-ordered (x ∷ before) l o)
      where
        go : (t : Bool) → Ordered b (firsts_after s (x ∷ before) l) → Ordered b (unless t x (firsts_after s (x ∷ before) l))
        go true k = k
        go false k = comes-first (λ y m. f y (firsts-member (x ∷ before) l y m)) k

    -- no member of the whole list that is alike comes before one that was kept
    firsts-first : (before l : List Atoms) → Ordered b l → (x : Atoms) → Memᴰ x (firsts_after s before l)
        → (y : Atoms) → Memᴰ y l → alike s x y ≡ true → Before b y x → ⊥
    unfolding firsts_after some
    firsts-first before [] o x m y n e p = Memᴰ.not-nil n
    firsts-first before (z ∷ l) (comes-first f o) x m y n e p = ⊎_elim
        (λ (t, q). ⊎_elim
        (λ k. before-irreflexive b y (subst (Before b y) (q ∙ sym k) p))
        (λ k. before-irreflexive b z (before-transitive b (f y k) (subst (Before b y) q p)))
        (Memᴰ.cases_cons n))
        (λ k. ⊎_elim
        (λ (q : y ≡ z). true-and-false (rw q at e) (neither_left (alike s x z) _ (firsts-new (z ∷ before) l x k)))
        (λ h. firsts-first (z ∷ before) l o x k y h e p)
        (Memᴰ.cases_cons n))
        (unless-by z _ _ x m)

-- ---- the readings that count

pub shown-firsts : (b : Book) (s : List AtomNo) (before : List Atoms) (es : List Event)
    → readings_in b (shown_after b s before es) ≡ firsts_after s before (readings_in b es)
unfolding readings_in shown_after firsts_after ifb unless
shown-firsts b s before [] = refl
shown-firsts b s before (clash r ∷ es) = shown-firsts b s before es
shown-firsts b s before (fork r ∷ es) = shown-firsts b s before es
shown-firsts b s before (quiet ∷ es) = shown-firsts b s before es
shown-firsts b s before (reading d ∷ es) =
    go (shown_after b s (reading_of b d ∷ before) es) _ (some (alike s (reading_of b d)) before) (shown-firsts b s (reading_of b d ∷ before) es)
  where
    go : (l : List Event) (m : List Atoms) (t : Bool) → readings_in b l ≡ m
        → readings_in b (ifb t quiet (reading d) ∷ l) ≡ unless t (reading_of b d) m
    go l m true e = e
    go l m false e = ap (λ (k : List Atoms). reading_of b d ∷ k) e

-- an answer set is a member of the list of readings
pub answer-reading : (b : Book) → count b ≤ 255 → (x : Atoms) → AnswerSet b x → Memᴰ x (readings b)
answer-reading b fits x p = let (y, m, e) = (readings-all b fits).complete x p in Memᴰ.cast (fun_ext e) m

module _ (b : Book) (fits : count b ≤ 255) (s : List AtomNo) where
  pub shown-readings : AllShown b s (readings_in b (shown_events b s))
  unfolding shown_events some
  shown-readings = subst (AllShown b s) (sym (shown-firsts b s [] (events b nothing))) firsts
    where
      firsts : AllShown b s (firsts_after s [] (readings b))
      firsts = record {
        sound = λ x m. (readings-all b fits).sound x (firsts-member s [] _ x m);
        complete = λ x p. ⊎_elim (λ h. true-and-false h refl) (λ k. k) (firsts-complete s [] _ x (answer-reading b fits x p));
        ordered = firsts-ordered s b [] _ (readings-all b fits).ordered;
        first = λ x m y p. firsts-first s b [] _ (readings-all b fits).ordered x m y (answer-reading b fits y p);
      }

module _ (b : Book) (s : List AtomNo) where
  -- two members of two such lists that are alike are the same set: each is the first
  shown-same : {l m : List Atoms} → AllShown b s l → AllShown b s m → (x y : Atoms) → Memᴰ x l → Memᴰ y m
      → alike s x y ≡ true → x ≡ y
  shown-same p q x y j k e = ⊎_elim fun_ext
      (λ h. absurd (⊎_elim
      (λ o. q.first y k x (p.sound x j) (alike-sym s x y e) o) (λ o. p.first x j y (q.sound y k) e o) h))
      (before-or-agree b x y (p.sound x j) (q.sound y k))

  shown-hold : {l m : List Atoms} → AllShown b s l → AllShown b s m → Holds b m l
  shown-hold p q x j = let (y, k, e) = q.complete x (p.sound x j) in Memᴰ.cast (shown-same p q x y j k e) k

  pub shown-only : (l m : List Atoms) → AllShown b s l → AllShown b s m → l ≡ m
  shown-only l m p q = ordered_same b l m p.ordered q.ordered (shown-hold p q) (shown-hold q p)

  pub shown-apart : (l : List Atoms) → AllShown b s l → (i j : ℕ) (z : Atoms) → i < j → j < length l
      → alike s (get_or l i z) (get_or l j z) ≡ true → ⊥
  shown-apart l p i j z h k e = ordered-once b l p.ordered i j z h k
      (λ a. ap (λ (x : Atoms). x a) (shown-same p p _ _ (place l i z (omega arith)) (place l j z k) e))
    where
      place : (l : List Atoms) (i : ℕ) (z : Atoms) → i < length l → Memᴰ (get_or l i z) l
      place [] i z h = absurd (omega arith)
      place (x ∷ l) zero z h = Memᴰ.head refl
      place (x ∷ l) (suc i) z h = Memᴰ.tail (place l i z (le_of_suc-le-suc h))

-- nothing shown: at most one
pub shown-none : (b : Book) (l : List Atoms) → AllShown b [] l → length l ≤ 1
shown-none b l p = ⊎_elim
    (λ h. absurd (shown-apart b [] l p 0 1 (λ a. false) (omega arith) h (all_alike _ _))) (λ h. h) (lt-or-le 1 (length l))
  where
    all_alike : (x y : Atoms) → alike [] x y ≡ true
    all_alike x y = alike_all [] x y (λ a m. absurd (Memᴰ.not-nil m))
