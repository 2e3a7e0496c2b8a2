-- Our find_shown meets the demands for calls with a list of shown atoms, and whoever meets them answers every call as ours does, to the
-- byte. From walk's laws along the events of the shown atoms, and because a book has one list of all shown readings only.
use mathlib.Core.Path.{◌≡◌, refl, sym, ◌∙◌, ap, subst}
use mathlib.Core.Logic.{⊎_elim, ◌↔◌}
use mathlib.Core.Bool.{true, false}
use mathlib.Core.List.{List, ◌++◌}
use Prim.Native.Nat.{ℕ, ◌-◌, ◌≤◌, ◌<◌}
use native.Mathlib.Omega.{arith}
use lib.ListN.{length, get_or, drop}
use Rattle.meaning.specs.Books.{Atoms, Book}
use Rattle.meaning.specs.Told.{Told, refused_at, refused, fewer, stopped, Answered}
use Rattle.meaning.proofs.Tests.{lt-or-le, apart, decided, true-and-false}
use Rattle.meaning.proofs.Choice.{b-yes, b-no, eq_yes, eq_no, lt_yes, eq-either, lt-either, b-either}
use Rattle.book.specs.Rows.{Bytes}
use Rattle.walk.specs.Events.{Event}
use Rattle.walk.specs.Readings.{readings_in}
use Rattle.walk.specs.Tries.{Needs, to-reading, to_end, last_clash}
use Rattle.walk.specs.Run.{row_of, State}
use Rattle.walk.specs.Find.{set, told_by, find_along}
use Rattle.walk.specs.Shown.{ListGood, AllShown, shown_events}
use Rattle.walk.specs.FindShown.{good_list, find_shown_in, find_shown_of}
use Rattle.walk.specs.declared.tally.Halt.{Halt}
use Rattle.walk.specs.declared.tally.Halt.TheVariants.{Going, Full, Limit}
use Rattle.walk.proofs.Needs.{kth-reading, needs-some, needs-one}
use Rattle.walk.proofs.Demand.{find-set, find-stopped, find-fewer, find-row}
use Rattle.walk.proofs.Kept.{find-keeps}
use Rattle.walk.proofs.ShownReadings.{shown-readings, shown-only}
use Rattle.walk.proofs.GoodLists.{list-good, good-list}
use Rattle.walk.proofs.Selecting.{shown-bad-book, shown-good-book}
use Rattle.demands.specs.Damaged.{GoodBook, DamagedBook}
use Rattle.demands.specs.DemandShown.{Finder, atoms, ShownCall, DemandShown}
use Rattle.demands.proofs.Damaged.{every-book, damaged-bad, good-read, good-is}
use Rattle.demands.proofs.Calls.{along, book-fits}

abbrev told : Answered ℕ → Told ℕ
told a = a.told

shown-as : {book : List ℕ} {b : Book} → GoodBook book b → (k limit : ℕ) (shown answer : List ℕ)
    → find_shown_of book k limit shown answer ≡ find_shown_in b k limit shown answer
shown-as {book} g k limit shown answer = rw (good-is book g) at (shown-good-book book k limit shown answer _ _ _ _ (good-read book g))

-- ---- what a call tells, and for 15, 16 and 8 why

data Tells (b : Book) (k : ℕ) (shown answer : List ℕ) : Told ℕ → Type 0 where
  no_number : k ≡ 0 → Tells b k shown answer (refused 15)
  no-list : 0 < k → good_list b.atoms shown ≡ false → Tells b k shown answer (refused 16)
  no_room : 0 < k → good_list b.atoms shown ≡ true → length answer < b.atoms → Tells b k shown answer (refused 8)
  found : {t : ℕ} → Tells b k shown answer (set t)
  too_few : {t n r : ℕ} → Tells b k shown answer (fewer t n r)
  too_long : {l : ℕ} → Tells b k shown answer (stopped l)

module _ (b : Book) (k limit : ℕ) (shown answer : List ℕ) where
  walk-tells : (h : Halt) (s : State) → Tells b k shown answer (told_by h s limit)
  unfolding told_by
  walk-tells Going s = too_few
  walk-tells Full s = found
  walk-tells Limit s = too_long

  shown-tells : Tells b k shown answer (find_shown_in b k limit shown answer).told
  unfolding find_shown_in find_along
  shown-tells =
      let P : Answered ℕ → Type 0 = λ a. Tells b k shown answer a.told in
      eq-either P _ _ _ _ no_number λ n. b-either P _ _ _
      (λ t. eq-either P _ _ _ _ no_number λ m. lt-either P _ _ _ _ (no_room (omega arith) t) λ h. walk-tells _ _)
      (λ t. no-list (omega arith) t)

  -- where there is a number and a good list, it is finding along the events of the shown atoms
  shown-along : 0 < k → good_list b.atoms shown ≡ true
      → find_shown_in b k limit shown answer ≡ find_along b (shown_events b (atoms shown)) k limit answer
  unfolding find_shown_in
  shown-along h t = eq_no _ _ _ _ (λ e. omega arith) ∙ b-yes _ _ _ t

-- ---- demand 1

module _ (book : List ℕ) (k limit : ℕ) (shown answer : List ℕ) where
  bad-told : {i at : ℕ} → DamagedBook book i at → (find_shown_of book k limit shown answer).told ≡ refused_at i at
  bad-told d = ap told (shown-bad-book book k limit shown answer _ _ (damaged-bad book d))

  shown-cases : {t : Told ℕ} (A : Type 0) → (find_shown_of book k limit shown answer).told ≡ t
      → ((b : Book) → GoodBook book b → Tells b k shown answer t → A) → ((i at : ℕ) → DamagedBook book i at → refused_at i at ≡ t → A) → A
  shown-cases A e f g = ⊎_elim
      (λ (b, h). f b h (subst (Tells b k shown answer) (ap told (sym (shown-as h k limit shown answer)) ∙ e) (shown-tells b k limit shown answer)))
      (λ (i, at, d). g i at d (sym (bad-told d) ∙ e)) (every-book book)

  damaged : (i at : ℕ) → ((find_shown_of book k limit shown answer).told ≡ refused_at i at) ↔ DamagedBook book i at
  damaged i at = (
    λ e. shown-cases (DamagedBook book i at) e (λ b g. never) (λ j p d q. let u : j ≡ i = cc in let v : p ≡ at = cc in rw (u, v) at d),
    bad-told,
  )
    where
      never : {i at : ℕ} {b : Book} {A : Type 0} → Tells b k shown answer (refused_at i at) → A
      never w = elim w [ ]

  zero : ((find_shown_of book k limit shown answer).told ≡ refused 15) ↔ ((b : Book) × GoodBook book b × (k ≡ 0))
  unfolding find_shown_in
  zero = (
    λ e. shown-cases ((b : Book) × GoodBook book b × (k ≡ 0)) e (λ b g w. (b, g, there w)) (λ i at d q. apart (cc)),
    λ (b, g, e). ap told (shown-as g k limit shown answer ∙ eq_yes _ _ _ _ e),
  )
    where
      there : {b : Book} → Tells b k shown answer (refused 15) → k ≡ 0
      there (no_number e) = e

  bad-list : ((find_shown_of book k limit shown answer).told ≡ refused 16)
      ↔ ((b : Book) × GoodBook book b × (0 < k) × ¬ ListGood b (atoms shown))
  unfolding find_shown_in
  bad-list = (
    λ e. shown-cases ((b : Book) × GoodBook book b × (0 < k) × ¬ ListGood b (atoms shown)) e
        (λ b g w. let (h, n) = there w in (b, g, h, λ l. true-and-false (good-list b shown l) n)) (λ i at d q. apart (cc)),
    λ (b, g, h, n). ap told (shown-as g k limit shown answer ∙ eq_no _ _ _ _ (λ e. omega arith)
        ∙ b-no _ _ _ (⊎_elim (λ t. absurd (n (list-good b shown t))) (λ t. t) (decided (good_list b.atoms shown)))),
  )
    where
      there : {b : Book} → Tells b k shown answer (refused 16) → (0 < k) × (good_list b.atoms shown ≡ false)
      there (no-list h n) = (h, n)

  short : ((find_shown_of book k limit shown answer).told ≡ refused 8)
      ↔ ((b : Book) × GoodBook book b × (0 < k) × ListGood b (atoms shown) × (length answer < b.atoms))
  unfolding find_along
  short = (
    λ e. shown-cases ((b : Book) × GoodBook book b × (0 < k) × ListGood b (atoms shown) × (length answer < b.atoms)) e
        (λ b g w. let (h, t, l) = there w in (b, g, h, list-good b shown t, l)) (λ i at d q. apart (cc)),
    λ (b, g, h, t, l). ap told (shown-as g k limit shown answer ∙ shown-along b k limit shown answer h (good-list b shown t)
        ∙ eq_no _ _ _ _ (λ e. omega arith) ∙ lt_yes _ _ _ _ l),
  )
    where
      there : {b : Book} → Tells b k shown answer (refused 8)
          → (0 < k) × (good_list b.atoms shown ≡ true) × (length answer < b.atoms)
      there (no_room h t l) = (h, t, l)

  keeps : ((t : ℕ) → (find_shown_of book k limit shown answer).told ≡ set t → ⊥) → (find_shown_of book k limit shown answer).buffer ≡ answer
  unfolding find_shown_in
  keeps f = ⊎_elim
      (λ (b, g). let e = shown-as g k limit shown answer in
      ap (λ (a : Answered ℕ). a.buffer) e ∙ kept_in b (λ t p. f t (ap told e ∙ p)))
      (λ (i, at, d). ap (λ (a : Answered ℕ). a.buffer) (shown-bad-book book k limit shown answer _ _ (damaged-bad book d))) (every-book book)
    where
      kept_in : (b : Book) → ((t : ℕ) → (find_shown_in b k limit shown answer).told ≡ set t → ⊥) → (find_shown_in b k limit shown answer).buffer ≡ answer
      kept_in b =
          let P : Answered ℕ → Type 0 = λ a. ((t : ℕ) → a.told ≡ set t → ⊥) → a.buffer ≡ answer in
          eq-either P _ _ _ _ (λ e f. refl) λ n. b-either P _ _ _
          (λ t. find-keeps b (shown_events b (atoms shown)) k limit answer) (λ t f. refl)

-- ---- demand 2

module _ {book : List ℕ} {b : Book} {k : ℕ} {shown answer : List ℕ} (c : ShownCall book b k shown answer) (limit : ℕ) where
  abbrev es : List Event
  es = shown_events b (atoms shown)

  as-along : find_shown_of book k limit shown answer ≡ find_along b es k limit answer
  as-along = shown-as c.good_book k limit shown answer
      ∙ shown-along b k limit shown answer c.good-number (good-list b shown c.good-list)

  list-is : {l : List Atoms} → AllShown b (atoms shown) l → l ≡ readings_in b es
  list-is all = shown-only b (atoms shown) _ _ all (shown-readings b (book-fits c.good_book c.bytes).rules (atoms shown))

  given : {n : ℕ} → Needs b es k n → n ≤ limit → k ≤ length (readings_in b es)
      → ((find_shown_of book k limit shown answer).told ≡ set n)
      × ((z : Atoms) → (find_shown_of book k limit shown answer).buffer ≡ row_of b (get_or (readings_in b es) (k - 1) z) ++ drop b.atoms answer)
  given (to-reading {t = t} {x = x} first) h l =
      let e = (find-set b es k limit answer c.good-number c.good-room t).1 (x, first, h) in (
        ap told as-along ∙ e,
        λ z. ap (λ (a : Answered ℕ). a.buffer) as-along ∙ find-row b es k limit answer t x e first
            ∙ ap (λ (y : Atoms). row_of b y ++ drop b.atoms answer) (sym (kth-reading b first z)),
      )
  given (to_end f) h l = absurd (omega arith)

  fewer-told : {n : ℕ} → Needs b es k n → n ≤ limit
      → ((find_shown_of book k limit shown answer).told ≡ fewer n (length (readings_in b es)) (last_clash es)) ↔ (length (readings_in b es) < k)
  fewer-told needs h = (
    λ e. ((find-fewer b es k limit answer c.good-number c.good-room _ _ _).0 (sym (ap told as-along) ∙ e)).0,
    λ l. ap told as-along
        ∙ (find-fewer b es k limit answer c.good-number c.good-room _ _ _).1 (l, needs-one b needs (to_end l), refl, refl, h),
  )

pub ours-shown : DemandShown find_shown_of
ours-shown = record {
  refuses = record { shown-book = damaged; shown-number = zero; shown-list = bad-list; shown-room = short; shown-keeps = keeps };
  gives-shown = λ book b k limit shown answer c l all n needs h. rw (list-is c limit all) (given c limit needs h);
  stops = λ book b k limit shown answer c. along (stopped limit) (ap told (as-along c limit))
      (find-stopped b (es c limit) k limit answer c.good-number c.good-room);
  tells-fewer = λ book b k limit shown answer c l all n needs h. rw (list-is c limit all) (fewer-told c limit needs h);
}

-- so a good call has its list and its number of tries
pub shown-counts : {book : List ℕ} {b : Book} {k : ℕ} {shown answer : List ℕ} → ShownCall book b k shown answer
    → (l : List Atoms) × AllShown b (atoms shown) l × (n : ℕ) × Needs b (shown_events b (atoms shown)) k n
shown-counts {b = b} {k = k} {shown = shown} c =
    let (n, needs) = needs-some b (shown_events b (atoms shown)) k c.good-number in
    (_, shown-readings b (book-fits c.good_book c.bytes).rules (atoms shown), n, needs)

-- ---- the demands leave nothing open

module _ (book : List ℕ) (bytes : Bytes book) (k limit : ℕ) (shown answer : List ℕ) where
  Finds : Answered ℕ → Type 0
  Finds a = (f : Finder) → DemandShown f → f book k limit shown answer ≡ a

  -- the same told, and the buffer as it was
  refuses : (t : Told ℕ) → ((u : ℕ) → t ≡ set u → ⊥) → ((f : Finder) → DemandShown f → (f book k limit shown answer).told ≡ t)
      → Finds (record { told = t; buffer = answer })
  unfolding Finds
  refuses t n g f p =
      let same = g f p in
      let kept = p.refuses.shown-keeps book k limit shown answer (λ u z. n u (sym same ∙ z)) in
      λ i. record { told = same i; buffer = kept i }

  module _ {b : Book} (c : ShownCall book b k shown answer) where
    gives : {l : List Atoms} → AllShown b (atoms shown) l → {n : ℕ} → Needs b (shown_events b (atoms shown)) k n → n ≤ limit → k ≤ length l
        → Finds (record { told = set n; buffer = row_of b (get_or l (k - 1) (λ a. false)) ++ drop b.atoms answer })
    unfolding Finds
    gives all needs h m f p =
        let (same, row) = p.gives-shown book b k limit shown answer c _ all _ needs h m in
        let there = row (λ a. false) in
        λ i. record { told = same i; buffer = there i }

    call-found : (a : Answered ℕ) × Finds a
    call-found =
        let (l, all, n, needs) = shown-counts c in
        ⊎_elim (λ h. (_, refuses (stopped limit) (λ u z. apart (cc)) (λ f p. (p.stops book b k limit shown answer c).1 (n, needs, h))))
        (λ h. ⊎_elim
        (λ m. (
          _,
          refuses (fewer n (length l) (last_clash (shown_events b (atoms shown)))) (λ u z. apart (cc))
              (λ f p. (p.tells-fewer book b k limit shown answer c l all n needs h).1 m),
        ))
        (λ m. (_, gives all needs h m)) (lt-or-le (length l) k)) (lt-or-le limit n)

  module _ {b : Book} (g : GoodBook book b) where
    listed_found : 0 < k → ListGood b (atoms shown) → (a : Answered ℕ) × Finds a
    listed_found h t = ⊎_elim
        (λ l. (_, refuses (refused 8) (λ u z. apart (cc)) (λ f p. (p.refuses.shown-room book k limit shown answer).1 (b, g, h, t, l))))
        (λ l. call-found (record { bytes = bytes; good_book = g; good-number = h; good-list = t; good-room = l }))
        (lt-or-le (length answer) b.atoms)

    good-found : (a : Answered ℕ) × Finds a
    good-found = ⊎_elim
        (λ h. ⊎_elim (λ t. listed_found h (list-good b shown t))
        (λ t. (
          _,
          refuses (refused 16) (λ u z. apart (cc)) (λ f p. (p.refuses.shown-list book k limit shown answer).1
              (b, g, h, λ l. true-and-false (good-list b shown l) t)),
        )) (decided (good_list b.atoms shown)))
        (λ h. (_, refuses (refused 15) (λ u z. apart (cc)) (λ f p. (p.refuses.shown-number book k limit shown answer).1 (b, g, omega arith))))
        (lt-or-le 0 k)

  found-one : (a : Answered ℕ) × Finds a
  found-one = ⊎_elim (λ (b, g). good-found g)
      (λ (i, at, d). (_, refuses (refused_at i at) (λ u z. apart (cc)) (λ f p. (p.refuses.shown-book book k limit shown answer i at).1 d)))
      (every-book book)

  pub shown-only-ours : (f : Finder) → DemandShown f → f book k limit shown answer ≡ find_shown_of book k limit shown answer
  unfolding Finds
  shown-only-ours f p = let (a, g) = found-one in g f p ∙ sym (g find_shown_of ours-shown)
