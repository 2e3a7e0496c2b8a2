-- Which readings count, asked of one reading by itself: x is the first of those alike it in the list of readings exactly if no answer set
-- that is alike comes before it, and exactly those readings count. With all atoms shown that is every reading.
use mathlib.Core.Path.{◌≡◌, refl, sym, ◌∙◌, ap, subst}
use mathlib.Core.Logic.{◌⊎◌, inl, inr, ⊎_elim}
use mathlib.Core.Bool.{Bool, true, false, not, false≢true}
use mathlib.Core.List.Memᴰ
use mathlib.Core.List.{List, [], ◌∷◌, ◌++◌, Memᴰ}
use Prim.Native.Nat.{ℕ, suc, ◌≤◌, ◌<◌}
use native.Mathlib.Omega.{arith}
use lib.ListN.{length}
use borrow.Author.Tests.{not-true}
use Rattle.meaning.specs.declared.AtomNo.{AtomNo}
use Rattle.meaning.specs.Sets.{◌∈◌, some}
use Rattle.meaning.specs.Books.{Atoms, Book, count}
use Rattle.meaning.specs.AnswerSet.{AnswerSet}
use Rattle.meaning.specs.Written.{nothing}
use Rattle.meaning.specs.Choice.{ifb}
use Rattle.meaning.proofs.Tests.{true-and-false, decided, refuted, same}
use Rattle.meaning.proofs.Sets.{some_one, some-by}
use Rattle.meaning.proofs.Choice.{b-yes, b-no}
use Rattle.meaning.proofs.LeastModel.{Proper, answer-inside}
use Rattle.walk.specs.Events.{Event, clash, fork, reading, quiet, events}
use Rattle.walk.specs.Readings.{reading_of, readings_in, readings, Before, Ordered, comes-first}
use Rattle.walk.specs.Shown.{alike, shown_after, shown_events}
use Rattle.walk.specs.FirstAlike.{same_reading, first_among, is_this, fresh, counts, counted_by}
use Rattle.walk.specs.declared.verdict.Verdict.{Verdict}
use Rattle.walk.specs.declared.verdict.Verdict.TheVariants.{Nobody, This, Another}
use Rattle.walk.proofs.Order.{before-irreflexive, before-transitive}
use Rattle.walk.proofs.Readings.{readings-all}
use Rattle.walk.proofs.ShownReadings.{answer-reading}
use Rattle.walk.proofs.Alike.{alike_refl, same-reading, same-reading-refl, alike-inside}

-- ---- the first of those that are alike

another-this : {A : Type 0} → Another ≡ This → A
another-this e = let z : ◌≡◌ {A = ℕ} 0 1 = cc in absurd (omega arith)

pub is-this : (v : Verdict) → is_this v ≡ true → v ≡ This
unfolding is_this
is-this Nobody e = absurd (false≢true e)
is-this This e = refl
is-this Another e = absurd (false≢true e)

module _ (b : Book) (s : List AtomNo) (x : Atoms) where
  pub first-here : (y : Atoms) (l : List Atoms) → alike s x y ≡ true → first_among b s x (y ∷ l) ≡ ifb (same_reading b x y) This Another
  unfolding first_among
  first-here y l e = b-yes _ _ _ e

  pub first_past : (y : Atoms) (l : List Atoms) → alike s x y ≡ false → first_among b s x (y ∷ l) ≡ first_among b s x l
  unfolding first_among
  first_past y l e = b-no _ _ _ e

  pub first-this : (l : List Atoms) → Ordered b l → ((y : Atoms) → Memᴰ y l → alike s x y ≡ true → Before b y x → ⊥)
      → Memᴰ x l → first_among b s x l ≡ This
  first-this [] o n m = absurd (Memᴰ.not-nil m)
  first-this (z ∷ l) (comes-first f o) n m = ⊎_elim
      (λ (e : x ≡ z). first-here z l (subst (λ (u : Atoms). alike s x u ≡ true) e (alike_refl s x))
      ∙ b-yes _ _ _ (subst (λ (u : Atoms). same_reading b x u ≡ true) e (same-reading-refl b x)))
      (λ k. first_past z l (refuted (λ e. n z (Memᴰ.head refl) e (f x k))) ∙ first-this l o (λ y j. n y (Memᴰ.tail j)) k)
      (Memᴰ.cases_cons m)

  pub this-first : AnswerSet b x → (l : List Atoms) → Ordered b l → ((y : Atoms) → Memᴰ y l → AnswerSet b y)
      → first_among b s x l ≡ This → (y : Atoms) → Memᴰ y l → alike s x y ≡ true → Before b y x → ⊥
  this-first p [] o sound t y m e h = Memᴰ.not-nil m
  this-first p (z ∷ l) (comes-first f o) sound t y m e h = ⊎_elim
      (λ a. let g = here a in ⊎_elim
      (λ (q : y ≡ z). before-irreflexive b x (subst (λ (u : Atoms). Before b u x) (q ∙ sym g) h))
      (λ k. before-irreflexive b z (before-transitive b (f y k) (subst (Before b y) g h))) (Memᴰ.cases_cons m))
      (λ a. ⊎_elim
      (λ (q : y ≡ z). true-and-false (rw q at e) a)
      (λ k. this-first p l o (λ u j. sound u (Memᴰ.tail j)) (sym (first_past z l a) ∙ t) y k e h) (Memᴰ.cases_cons m))
      (decided (alike s x z))
    where
      here : alike s x z ≡ true → x ≡ z
      here a = ⊎_elim (same-reading b x z p (sound z (Memᴰ.head refl)))
          (λ d. another-this (sym (b-no _ _ _ d) ∙ sym (first-here z l a) ∙ t)) (decided (same_reading b x z))

-- ---- the events, of which some readings count

pub counted-append : (b : Book) (p : Atoms → Bool) (es fs : List Event) → counted_by b p (es ++ fs) ≡ counted_by b p es ++ counted_by b p fs
unfolding counted_by
counted-append b p [] fs = refl
counted-append b p (clash r ∷ es) fs = ap (λ (l : List Event). clash r ∷ l) (counted-append b p es fs)
counted-append b p (fork r ∷ es) fs = ap (λ (l : List Event). fork r ∷ l) (counted-append b p es fs)
counted-append b p (quiet ∷ es) fs = ap (λ (l : List Event). quiet ∷ l) (counted-append b p es fs)
counted-append b p (reading d ∷ es) fs = ap (λ (l : List Event). ifb (p (reading_of b d)) (reading d) quiet ∷ l) (counted-append b p es fs)

-- each try stays a try
pub counted-length : (b : Book) (p : Atoms → Bool) (es : List Event) → length (counted_by b p es) ≡ length es
unfolding counted_by
counted-length b p [] = refl
counted-length b p (clash r ∷ es) = ap suc (counted-length b p es)
counted-length b p (fork r ∷ es) = ap suc (counted-length b p es)
counted-length b p (quiet ∷ es) = ap suc (counted-length b p es)
counted-length b p (reading d ∷ es) = ap suc (counted-length b p es)

-- ---- fresh readings

module _ (b : Book) (fits : count b ≤ 255) (s : List AtomNo) where
  module _ (x : Atoms) (p : AnswerSet b x) where
    pub first-fresh : ((y : Atoms) → AnswerSet b y → alike s x y ≡ true → Before b y x → ⊥) → fresh b s x ≡ true
    unfolding fresh is_this
    first-fresh n = ap is_this (first-this b s x (readings b) (readings-all b fits).ordered
        (λ y m. n y ((readings-all b fits).sound y m)) (answer-reading b fits x p))

    pub fresh-first : fresh b s x ≡ true → (y : Atoms) → AnswerSet b y → alike s x y ≡ true → Before b y x → ⊥
    unfolding fresh
    fresh-first t y q = this-first b s x p (readings b) (readings-all b fits).ordered (readings-all b fits).sound (is-this _ t) y
        (answer-reading b fits y q)

  -- ---- the readings that count are the fresh ones

  -- all answer sets, parted at a place of the walk: those met before it, and the list of those to come
  record Parted (before l : List Atoms) : Type 0 where
    ordered : Ordered b l
    answers : (x : Atoms) → Memᴰ x before → AnswerSet b x
    later-answers : (x : Atoms) → Memᴰ x l → AnswerSet b x
    earlier : (x : Atoms) → Memᴰ x before → (y : Atoms) → Memᴰ y l → Before b x y
    all : (x : Atoms) → AnswerSet b x → Memᴰ x before ⊎ Memᴰ x l

  parted-start : Parted [] (readings b)
  parted-start = record {
    ordered = (readings-all b fits).ordered;
    answers = λ x m. absurd (Memᴰ.not-nil m);
    later-answers = (readings-all b fits).sound;
    earlier = λ x m. absurd (Memᴰ.not-nil m);
    all = λ x p. inr (answer-reading b fits x p);
  }

  module _ (before : List Atoms) (x : Atoms) (l : List Atoms) (p : Parted before (x ∷ l)) where
    answer-here : AnswerSet b x
    answer-here = p.later-answers x (Memᴰ.head refl)

    after-here : (y : Atoms) → Memᴰ y l → Before b x y
    after-here = go p.ordered
      where
        go : Ordered b (x ∷ l) → (y : Atoms) → Memᴰ y l → Before b x y
        go (comes-first f o) = f

    parted-next : Parted (x ∷ before) l
    parted-next = record {
      ordered = go p.ordered;
      answers = λ y m. ⊎_elim (λ e. subst (AnswerSet b) (sym e) answer-here) (p.answers y) (Memᴰ.cases_cons m);
      later-answers = λ y m. p.later-answers y (Memᴰ.tail m);
      earlier = λ y m z k. ⊎_elim (λ e. subst (λ (u : Atoms). Before b u z) (sym e) (after-here z k))
          (λ n. p.earlier y n z (Memᴰ.tail k)) (Memᴰ.cases_cons m);
      all = λ y q. ⊎_elim (λ m. inl (Memᴰ.tail m))
          (λ m. ⊎_elim (λ e. inl (Memᴰ.head e)) inr (Memᴰ.cases_cons m)) (p.all y q);
    }
      where
        go : Ordered b (x ∷ l) → Ordered b l
        go (comes-first f o) = o

    -- an alike one was met exactly if x is not fresh
    fresh-here : fresh b s x ≡ not (some (alike s x) before)
    fresh-here = same _ _ (λ t. ap not (none-met t)) (λ k. first-fresh x answer-here (none_before (not-true _ k)))
      where
        none-met : fresh b s x ≡ true → some (alike s x) before ≡ false
        none-met t = refuted (λ k.
            let (y, m, e) = some-by (alike s x) before k in
            fresh-first x answer-here t y (p.answers y m) e (p.earlier y m x (Memᴰ.head refl)))

        none_before : some (alike s x) before ≡ false → (y : Atoms) → AnswerSet b y → alike s x y ≡ true → Before b y x → ⊥
        none_before k y q e h = ⊎_elim (λ m. true-and-false (some_one _ before y m e) k)
            (λ m. ⊎_elim (λ z. before-irreflexive b x (subst (λ (u : Atoms). Before b u x) z h))
            (λ n. before-irreflexive b x (before-transitive b (after-here y n) h)) (Memᴰ.cases_cons m)) (p.all y q)

  counted-after : (before : List Atoms) (es : List Event) → Parted before (readings_in b es)
      → shown_after b s before es ≡ counted_by b (fresh b s) es
  unfolding readings_in shown_after counted_by ifb
  counted-after before [] p = refl
  counted-after before (clash r ∷ es) p = ap (λ (l : List Event). clash r ∷ l) (counted-after before es p)
  counted-after before (fork r ∷ es) p = ap (λ (l : List Event). fork r ∷ l) (counted-after before es p)
  counted-after before (quiet ∷ es) p = ap (λ (l : List Event). quiet ∷ l) (counted-after before es p)
  counted-after before (reading d ∷ es) p =
      let e = other_way (some (alike s (reading_of b d)) before) _ quiet (reading d) (fresh-here before (reading_of b d) _ p) in
      let f = counted-after (reading_of b d ∷ before) es (parted-next before (reading_of b d) _ p) in
      λ i. e i ∷ f i
    where
      other_way : (t u : Bool) (f g : Event) → u ≡ not t → ifb t f g ≡ ifb u g f
      other_way true u f g e = sym (b-no u g f e)
      other_way false u f g e = sym (b-yes u g f e)

  pub shown-counted : shown_events b s ≡ counted_by b (fresh b s) (events b nothing)
  unfolding shown_events
  shown-counted = counted-after [] (events b nothing) parted-start

  -- "Tries speak of the one fixed walk": all its tries count
  pub shown-tries : length (shown_events b s) ≡ length (events b nothing)
  shown-tries = ap length shown-counted ∙ counted-length b (fresh b s) (events b nothing)

-- ---- where every reading counts, nothing turns quiet

pub counted-all : (b : Book) (p : Atoms → Bool) (es : List Event) → ((x : Atoms) → Memᴰ x (readings_in b es) → x ∈ p)
    → counted_by b p es ≡ es
unfolding readings_in counted_by
counted-all b p [] f = refl
counted-all b p (clash r ∷ es) f = ap (λ (l : List Event). clash r ∷ l) (counted-all b p es f)
counted-all b p (fork r ∷ es) f = ap (λ (l : List Event). fork r ∷ l) (counted-all b p es f)
counted-all b p (quiet ∷ es) f = ap (λ (l : List Event). quiet ∷ l) (counted-all b p es f)
counted-all b p (reading d ∷ es) f =
    let e = b-yes _ (reading d) quiet (f _ (Memᴰ.head refl)) in
    let g = counted-all b p es (λ x m. f x (Memᴰ.tail m)) in
    λ i. e i ∷ g i

-- all atoms shown
pub shown-all : (b : Book) → count b ≤ 255 → Proper b → (s : List AtomNo) → ((a : AtomNo) → a.0 < b.atoms → Memᴰ a s)
    → shown_events b s ≡ events b nothing
shown-all b fits proper s f = shown-counted b fits s ∙ counted-all b (fresh b s) (events b nothing) (λ x m.
    let p = (readings-all b fits).sound x m in
    first-fresh b fits s x p (λ y q e h.
    let z : x ≡ y = alike-inside b s f x y (answer-inside b fits x proper p) (answer-inside b fits y proper q) e in
    before-irreflexive b x (subst (λ (u : Atoms). Before b u x) (sym z) h)))

-- ---- where every reading counts, and where only fresh ones do

module _ (b : Book) (s : List AtomNo) where
  pub counts-every : (every : Bool) → every ≡ true → (x : Atoms) → true ≡ counts every b s x
  unfolding counts
  counts-every every e x = rw e

  pub counts-fresh : (every : Bool) → every ≡ false → (x : Atoms) → counts every b s x ≡ fresh b s x
  unfolding counts
  counts-fresh every e x = rw e

  pub all-counted : (es : List Event) → counted_by b (counts true b s) es ≡ es
  all-counted es = counted-all b _ es (λ x m. sym (counts-every true refl x))
