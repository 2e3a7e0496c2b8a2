-- What a call for the counts tells (request 13, Q1 and Q2): the number of answer sets and in how many of them each atom stands, whatever
-- list of all readings is taken, since there is one only; and what the counts say of an atom, each of three things by itself.
use Rattle.std.proofs.Common.{◌≡◌, ℕ, ◌<◌, ◌≤◌, ◌↔◌, List, ◌++◌, length, get_or, drop, sym, refl, ap, ◌∙◌, subst, ⊎_elim, arith}
use Rattle.meaning.specs.declared.AtomNo.{AtomNo}
use Rattle.meaning.specs.Books.{Atoms, Rule, Book, count}
use Rattle.meaning.specs.AnswerSet.{Certain, Clear}
use Rattle.meaning.specs.Told.{success, refused_at, stopped, Answered}
use Rattle.meaning.specs.Written.{nothing}
use Rattle.meaning.proofs.Tests.{lt-or-le}
use Rattle.meaning.proofs.Choice.{lt_yes, lt_no}
use Rattle.meaning.proofs.Told.{success-one}
use Rattle.book.specs.Format.{good, bad, read_of, book_of, book_in}
use Rattle.walk.specs.Events.{events}
use Rattle.walk.specs.Readings.{readings, AllReadings}
use Rattle.walk.proofs.Readings.{readings-all}
use Rattle.walk.proofs.Order.{readings-only}
use Rattle.counting.specs.Counts.{standing, standings, Counts, HasOne, InSome}
use Rattle.counting.specs.Count.{count_in, count_read, count_of}
use Rattle.counting.proofs.Numbers.{numbers-length, numbers-place, behind}
use Rattle.counting.proofs.Standing.{has_one, certain-all, some-between, none-zero}

-- ---- one list only

module _ {b : Book} where
  pub counts-any : {n : ℕ} {counts : List ℕ} → Counts b n counts → (l : List Atoms) → AllReadings b l
      → (n ≡ length l) × ((a : AtomNo) → a.0 < b.atoms → get_or counts a.0 0 ≡ standing a l)
  counts-any c l all = let e = readings-only b c.list l c.all all in
      (c.number ∙ ap length e, λ a h. c.each a h ∙ ap (standing a) e)

-- ---- the two answers of a good book

stopped-not-sets : {limit n : ℕ} → stopped limit ≡ success n → ⊥
stopped-not-sets e = let z : ◌≡◌ {A = ℕ} 0 1 = cc in absurd (omega arith)

module _ (b : Book) (limit : ℕ) (counts : List ℕ) where
  abbrev pub counted : Answered ℕ
  counted = record {
    told = success (length (readings b));
    buffer = standings b.atoms (readings b) ++ drop b.atoms counts;
  }

  pub count-within : length (events b nothing) ≤ limit → count_in b limit counts ≡ counted
  unfolding count_in
  count-within h = lt_no _ _ _ _ h

  pub count-beyond : limit < length (events b nothing) → count_in b limit counts ≡ record { told = stopped limit; buffer = counts }
  unfolding count_in
  count-beyond h = lt_yes _ _ _ _ h

  -- within the limit or beyond it
  pub told-or-stopped : (P : Answered ℕ → Type 0) → (length (events b nothing) ≤ limit → P counted)
      → (limit < length (events b nothing) → P (record { told = stopped limit; buffer = counts })) → P (count_in b limit counts)
  told-or-stopped P f g = ⊎_elim (λ h. subst P (sym (count-beyond h)) (g h)) (λ h. subst P (sym (count-within h)) (f h)) (lt-or-le limit _)

  -- 9, exactly if the whole walk needs more tries than the limit
  pub count-stopped : ((count_in b limit counts).told ≡ stopped limit) ↔ (limit < length (events b nothing))
  count-stopped = (
    told-or-stopped (λ r. r.told ≡ stopped limit → limit < length (events b nothing)) (λ h e. absurd (stopped-not-sets (sym e))) (λ h e. h),
    λ h. ap (λ (r : Answered ℕ). r.told) (count-beyond h),
  )

  -- nothing but the places of the atoms is written, and nothing at all where the limit is passed
  pub count-keeps : (j : ℕ) → b.atoms ≤ j → get_or (count_in b limit counts).buffer j 0 ≡ get_or counts j 0
  count-keeps j h = told-or-stopped (λ r. get_or r.buffer j 0 ≡ get_or counts j 0)
      (λ k. behind (standings b.atoms (readings b)) counts b.atoms j (numbers-length 0 b.atoms _) h) (λ k. refl)

  pub count-stopped-keeps : (count_in b limit counts).told ≡ stopped limit → (count_in b limit counts).buffer ≡ counts
  count-stopped-keeps e = ap (λ (r : Answered ℕ). r.buffer) (count-beyond (count-stopped.0 e))

  -- ---- Q1

  module _ (fits : count b ≤ 255) where
    pub count-counts : {n : ℕ} → (count_in b limit counts).told ≡ success n → Counts b n (count_in b limit counts).buffer
    count-counts {n} = told-or-stopped (λ r. r.told ≡ success n → Counts b n r.buffer) (λ h e. record {
      list = readings b;
      all = readings-all b fits;
      number = success-one (sym e);
      each = λ a k. numbers-place b.atoms _ a.0 _ k;
    }) (λ h e. absurd (stopped-not-sets e))

    pub count-standing : {n : ℕ} → (count_in b limit counts).told ≡ success n → (l : List Atoms) → AllReadings b l
        → (n ≡ length l) × ((a : AtomNo) → a.0 < b.atoms → get_or (count_in b limit counts).buffer a.0 0 ≡ standing a l)
    count-standing e l all = counts-any (count-counts e) l all

-- ---- of the bytes of a book

module _ (s : List ℕ) (limit : ℕ) (counts : List ℕ) where
  -- a book's refusal comes first, and nothing is written
  pub count-bad-book : (number at : ℕ) → read_of s ≡ bad number at
      → count_of s limit counts ≡ record { told = refused_at number at; buffer = counts }
  unfolding count_of count_read
  count-bad-book number at e = rw e

  -- all that is said above of a book holds of the book that good bytes hold
  pub count-good-book : (n r index : ℕ) (l : List Rule) → read_of s ≡ good n r index l
      → count_of s limit counts ≡ count_in (book_in s) limit counts
  unfolding count_of count_read book_in book_of
  count-good-book n r index l e = rw e

-- ---- Q2

pub counts-one-set : {b : Book} {n : ℕ} {counts : List ℕ} → Counts b n counts → HasOne b ↔ (0 < n)
counts-one-set {b} c = rw c.number (has_one b c.list c.all)

module _ {b : Book} {n : ℕ} {counts : List ℕ} (c : Counts b n counts) (a : AtomNo) (h : a.0 < b.atoms) where
  pub counts-certain : 0 < n → Certain b a ↔ (get_or counts a.0 0 ≡ n)
  counts-certain k = rw (c.each a h, c.number) (certain-all b a c.list c.all (rw c.number at k))

  pub counts_some : InSome b a ↔ ((0 < get_or counts a.0 0) × (get_or counts a.0 0 < n))
  counts_some = rw (c.each a h, c.number) (some-between b a c.list c.all)

  pub counts-none : 0 < n → Clear b a ↔ (get_or counts a.0 0 ≡ 0)
  counts-none k = rw (c.each a h) (none-zero b a c.list c.all (rw c.number at k))
