-- Finding along any walk meets demands 1 and 2 read over that walk, and they leave nothing open: whoever meets them answers every call in
-- the same way, byte for byte. What a call tells is followed down the tests in their order: the book, then the number and the room, then
-- the walk, which tells none of these refusals.
use mathlib.Core.Path.{◌≡◌, refl, sym, ◌∙◌, ap, subst}
use mathlib.Core.Logic.{⊎_elim, ◌↔◌}
use mathlib.Core.Bool.{false}
use mathlib.Core.List.{List, ◌++◌}
use Prim.Native.Nat.{ℕ, ◌-◌, ◌≤◌, ◌<◌}
use native.Mathlib.Omega.{arith}
use lib.ListN.{length, get_or, drop}
use Rattle.meaning.specs.Books.{Atoms, Book}
use Rattle.meaning.specs.Told.{Told, refused_at, refused, fewer, stopped, Answered}
use Rattle.meaning.proofs.Choice.{lt_yes, lt-either, eq_yes, eq_no, eq-either}
use Rattle.meaning.proofs.Tests.{lt-or-le, apart}
use Rattle.book.specs.Rows.{Bytes}
use Rattle.walk.specs.Events.{Event}
use Rattle.walk.specs.Readings.{readings_in}
use Rattle.walk.specs.Tries.{Kth, Needs, to-reading, to_end, last_clash}
use Rattle.walk.specs.Run.{State, row_of}
use Rattle.walk.specs.Find.{set, told_by, find_along, find_by}
use Rattle.walk.specs.declared.tally.Halt.{Halt}
use Rattle.walk.specs.declared.tally.Halt.TheVariants.{Going, Full, Limit}
use Rattle.walk.proofs.Needs.{kth-reading, needs-one, needs-some}
use Rattle.walk.proofs.Demand.{find-set, find-stopped, find-fewer, find-row, find-bad-book}
use Rattle.walk.proofs.Kept.{find-keeps}
use Rattle.demands.specs.Damaged.{GoodBook, DamagedBook}
use Rattle.demands.specs.Demand2.{Call}
use Rattle.demands.specs.FindsBy.{Finder, FindsBy}
use Rattle.demands.proofs.Damaged.{damaged-bad, every-book}
use Rattle.demands.proofs.Calls.{along, found_as}

-- ---- what finding tells, and for the refusals why

data Finds (k : ℕ) (room atoms : ℕ) : Told ℕ → Type 0 where
  no_number : k ≡ 0 → Finds k room atoms (refused 15)
  no_room : 0 < k → room < atoms → Finds k room atoms (refused 8)
  found : {t : ℕ} → Finds k room atoms (set t)
  too_few : {t n r : ℕ} → Finds k room atoms (fewer t n r)
  too_long : {l : ℕ} → Finds k room atoms (stopped l)

module _ (b : Book) (es : List Event) (k limit : ℕ) (answer : List ℕ) where
  abbrev FindTells : Told ℕ → Type 0
  FindTells = Finds k (length answer) b.atoms

  walk-tells : (h : Halt) (s : State) → FindTells (told_by h s limit)
  unfolding told_by
  walk-tells Going s = too_few
  walk-tells Full s = found
  walk-tells Limit s = too_long

  find-tells : FindTells (find_along b es k limit answer).told
  unfolding find_along
  find-tells =
      let P : Answered ℕ → Type 0 = λ a. FindTells a.told in
      eq-either P _ _ _ _ no_number λ n. lt-either P _ _ _ _ (no_room (omega arith)) λ h. walk-tells _ _

-- ---- refusals

module _ (walk : Book → List Event) (book : List ℕ) (k limit : ℕ) (answer : List ℕ) where
  bad-told : {i at : ℕ} → DamagedBook book i at → (find_by walk book k limit answer).told ≡ refused_at i at
  bad-told d = ap (λ (a : Answered ℕ). a.told) (find-bad-book walk book k limit answer _ _ (damaged-bad book d))

  -- a refusal told of a book is a good book's or a damaged one's
  find_cases : {t : Told ℕ} (A : Type 0) → (find_by walk book k limit answer).told ≡ t
      → ((b : Book) → GoodBook book b → Finds k (length answer) b.atoms t → A)
      → ((i at : ℕ) → DamagedBook book i at → refused_at i at ≡ t → A) → A
  find_cases A e f g = ⊎_elim
      (λ (b, h). f b h (subst (Finds k (length answer) b.atoms) (ap (λ (a : Answered ℕ). a.told) (sym (found_as h walk k limit answer)) ∙ e)
      (find-tells b (walk b) k limit answer)))
      (λ (i, at, d). g i at d (sym (bad-told d) ∙ e)) (every-book book)

  find-damaged : (i at : ℕ) → ((find_by walk book k limit answer).told ≡ refused_at i at) ↔ DamagedBook book i at
  find-damaged i at = (
    λ e. find_cases (DamagedBook book i at) e (λ b g. never)
        (λ j p d q. let u : j ≡ i = cc in let v : p ≡ at = cc in rw (u, v) at d),
    bad-told,
  )
    where
      never : {i at room atoms : ℕ} {A : Type 0} → Finds k room atoms (refused_at i at) → A
      never w = elim w [ ]

  find-zero : ((find_by walk book k limit answer).told ≡ refused 15) ↔ ((b : Book) × GoodBook book b × (k ≡ 0))
  unfolding find_along
  find-zero = (
    λ e. find_cases ((b : Book) × GoodBook book b × (k ≡ 0)) e (λ b g w. (b, g, there w)) (λ i at d q. apart (cc)),
    λ (b, g, e). ap (λ (a : Answered ℕ). a.told) (found_as g walk k limit answer ∙ eq_yes _ _ _ _ e),
  )
    where
      there : {room atoms : ℕ} → Finds k room atoms (refused 15) → k ≡ 0
      there (no_number e) = e

  find-short : ((find_by walk book k limit answer).told ≡ refused 8) ↔ ((b : Book) × GoodBook book b × (0 < k) × (length answer < b.atoms))
  unfolding find_along
  find-short = (
    λ e. find_cases ((b : Book) × GoodBook book b × (0 < k) × (length answer < b.atoms)) e
        (λ b g w. let (h, l) = there w in (b, g, h, l)) (λ i at d q. apart (cc)),
    λ (b, g, h, l).
        ap (λ (a : Answered ℕ). a.told) (found_as g walk k limit answer ∙ eq_no _ _ _ _ (λ e. omega arith) ∙ lt_yes _ _ _ _ l),
  )
    where
      there : {room atoms : ℕ} → Finds k room atoms (refused 8) → (0 < k) × (room < atoms)
      there (no_room h l) = (h, l)

  find-buffer : ((t : ℕ) → (find_by walk book k limit answer).told ≡ set t → ⊥) → (find_by walk book k limit answer).buffer ≡ answer
  find-buffer f = ⊎_elim
      (λ (b, g).
      let e = found_as g walk k limit answer in
      ap (λ (a : Answered ℕ). a.buffer) e ∙ find-keeps b (walk b) k limit answer (λ t p. f t (ap (λ (a : Answered ℕ). a.told) e ∙ p)))
      (λ (i, at, d). ap (λ (a : Answered ℕ). a.buffer) (find-bad-book walk book k limit answer _ _ (damaged-bad book d))) (every-book book)

-- ---- good calls

module _ (walk : Book → List Event) (book : List ℕ) (b : Book) (k limit : ℕ) (answer : List ℕ) (c : Call book b k answer) where
  abbrev readings : List Atoms
  readings = readings_in b (walk b)

  told-as : (find_by walk book k limit answer).told ≡ (find_along b (walk b) k limit answer).told
  told-as = ap (λ (a : Answered ℕ). a.told) (found_as c.good_book walk k limit answer)

  -- the k-th reading, met at try n
  kth-given : {n : ℕ} {x : Atoms} → Kth b (walk b) k n x → n ≤ limit
      → ((find_by walk book k limit answer).told ≡ set n)
      × ((z : Atoms) → (find_by walk book k limit answer).buffer ≡ row_of b (get_or readings (k - 1) z) ++ drop b.atoms answer)
  kth-given {n} {x} first h =
      let e = (find-set b (walk b) k limit answer c.good-number c.good-room n).1 (x, first, h) in (
        told-as ∙ e,
        λ z. ap (λ (a : Answered ℕ). a.buffer) (found_as c.good_book walk k limit answer)
            ∙ find-row b (walk b) k limit answer n x e first
            ∙ ap (λ (y : Atoms). row_of b y ++ drop b.atoms answer) (sym (kth-reading b first z)),
      )

  given : {n : ℕ} → Needs b (walk b) k n → n ≤ limit → k ≤ length readings
      → ((find_by walk book k limit answer).told ≡ set n)
      × ((z : Atoms) → (find_by walk book k limit answer).buffer ≡ row_of b (get_or readings (k - 1) z) ++ drop b.atoms answer)
  given (to-reading first) h l = kth-given first h
  given (to_end f) h l = absurd (omega arith)

  fewer-told : {n : ℕ} → Needs b (walk b) k n → n ≤ limit
      → ((find_by walk book k limit answer).told ≡ fewer n (length readings) (last_clash (walk b))) ↔ (length readings < k)
  fewer-told needs h = (
    λ e. ((find-fewer b (walk b) k limit answer c.good-number c.good-room _ _ _).0 (sym told-as ∙ e)).0,
    λ l. told-as ∙ (find-fewer b (walk b) k limit answer c.good-number c.good-room _ _ _).1 (l, to_last needs l, refl, refl, h),
  )
    where
      to_last : {n : ℕ} → Needs b (walk b) k n → length readings < k → n ≡ length (walk b)
      to_last needs l = needs-one b needs (to_end l)

pub finds-by : (walk : Book → List Event) → FindsBy walk (find_by walk)
finds-by walk = record {
  tells-book = find-damaged walk;
  tells-number = find-zero walk;
  tells-room = find-short walk;
  keeps = find-buffer walk;
  gives = λ book b k limit answer c n. given walk book b k limit answer c;
  stops = λ book b k limit answer c. along (stopped limit) (told-as walk book b k limit answer c)
      (find-stopped b (walk b) k limit answer c.good-number c.good-room);
  tells-fewer = λ book b k limit answer c n. fewer-told walk book b k limit answer c;
}

-- ---- nothing is left open

module _ (walk : Book → List Event) (book : List ℕ) (bytes : Bytes book) (k limit : ℕ) (answer : List ℕ) where
  -- all who find along the walk answer this call so
  Answers : Answered ℕ → Type 0
  Answers a = (find : Finder) → FindsBy walk find → find book k limit answer ≡ a

  -- the same told, and the buffer as it was
  refuses : (t : Told ℕ) → ((u : ℕ) → t ≡ set u → ⊥) → ((find : Finder) → FindsBy walk find → (find book k limit answer).told ≡ t)
      → Answers (record { told = t; buffer = answer })
  unfolding Answers
  refuses t n f find p =
      let told = f find p in
      let kept = p.keeps book k limit answer (λ u z. n u (sym told ∙ z)) in
      λ i. record { told = told i; buffer = kept i }

  module _ {b : Book} (c : Call book b k answer) where
    gives : {n : ℕ} → Needs b (walk b) k n → n ≤ limit → k ≤ length (readings_in b (walk b))
        → Answers (record { told = set n; buffer = row_of b (get_or (readings_in b (walk b)) (k - 1) (λ a. false)) ++ drop b.atoms answer })
    unfolding Answers
    gives needs h m find p =
        let (told, row) = p.gives book b k limit answer c _ needs h m in
        let there = row (λ a. false) in
        λ i. record { told = told i; buffer = there i }

    call-answered : (a : Answered ℕ) × Answers a
    call-answered =
        let (n, needs) = needs-some b (walk b) k c.good-number in
        ⊎_elim (λ h. (_, refuses (stopped limit) (λ u z. apart (cc)) (λ find p. (p.stops book b k limit answer c).1 (n, needs, h))))
        (λ h. ⊎_elim
        (λ m. (
          _,
          refuses (fewer n (length (readings_in b (walk b))) (last_clash (walk b))) (λ u z. apart (cc))
              (λ find p. (p.tells-fewer book b k limit answer c n needs h).1 m),
        ))
        (λ m. (_, gives needs h m)) (lt-or-le (length (readings_in b (walk b))) k)) (lt-or-le limit n)

  good-answered : {b : Book} → GoodBook book b → (a : Answered ℕ) × Answers a
  good-answered {b} g = ⊎_elim
      (λ h. ⊎_elim
      (λ l. (_, refuses (refused 8) (λ u z. apart (cc)) (λ find p. (p.tells-room book k limit answer).1 (b, g, h, l))))
      (λ l. call-answered (record { bytes = bytes; good_book = g; good-number = h; good-room = l })) (lt-or-le (length answer) b.atoms))
      (λ h. (_, refuses (refused 15) (λ u z. apart (cc)) (λ find p. (p.tells-number book k limit answer).1 (b, g, omega arith))))
      (lt-or-le 0 k)

  answered : (a : Answered ℕ) × Answers a
  answered = ⊎_elim (λ (b, g). good-answered g)
      (λ (i, at, d). (_, refuses (refused_at i at) (λ u z. apart (cc)) (λ find p. (p.tells-book book k limit answer i at).1 d)))
      (every-book book)

  pub finds-only : (find : Finder) → FindsBy walk find → find book k limit answer ≡ find_by walk book k limit answer
  unfolding Answers
  finds-only find p = let (a, f) = answered in f find p ∙ sym (f (find_by walk) (finds-by walk))
