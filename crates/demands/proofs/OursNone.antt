-- Our engine meets the demands for papers that a book has no reading (specs/DemandNone), from the checker's laws of acceptance and law T:
-- the paper's walk is the fixed walk. By no checker that is sound does a book have such a paper and one about an atom; and where naming or
-- clearing tells 11, this paper is written, or only its length stops it.
use mathlib.Core.Path.{◌≡◌, sym, ◌∙◌, ap, subst}
use mathlib.Core.Logic.{◌⊎◌, inl, inr, ⊎_elim, ◌↔◌}
use mathlib.Core.List.{List}
use Prim.Native.Nat.{ℕ, ◌<◌}
use native.Mathlib.Omega.{arith}
use lib.ListN.{length, take, drop}
use lib.Seq.{take_at, drop_at}
use Rattle.meaning.specs.declared.kind.Claim.TheVariants.{NoReading}
use Rattle.meaning.specs.Books.{Book}
use Rattle.meaning.specs.Claim.{Contrary}
use Rattle.meaning.specs.Paper.{paper_bytes}
use Rattle.meaning.specs.Told.{Told, success, refused_with, refused_at, refused, stopped, Answered}
use Rattle.meaning.specs.Written.{nothing}
use Rattle.meaning.proofs.Choice.{lt-either}
use Rattle.meaning.proofs.Tests.{lt-or-le, apart}
use Rattle.book.specs.Format.{book_in}
use Rattle.book.specs.Rows.{Bytes}
use Rattle.walk.specs.Events.{events}
use Rattle.walk.specs.Tries.{Needs, to-reading, to_end}
use Rattle.walk.proofs.Needs.{needs-some}
use Rattle.walk.proofs.FirstWalk.{kth-answer, fewer-none}
use Rattle.writer.specs.Scan.{Course, writing, limited, refuted}
use Rattle.writer.specs.PaperNeeds.{bare_for}
use Rattle.writer.specs.Write.{Handed, paper, hand_over, after_paper_walk, unwitnessed, write_in, contradict_of}
use Rattle.writer.proofs.Stages.{write-bad-book, write-keeps-buffer}
use Rattle.writer.proofs.Contradicting.{contrary-keeps, contradict-stopped, contradict-has, contradict-too-long, contradict-paper}
use Rattle.writer.proofs.Contradicting.{contradict-written}
use Rattle.checker.specs.Check.{check_of}
use Rattle.checker.proofs.Rows.{checked-row}
use Rattle.checker.proofs.Accepted.{check-contrary, check-complete}
use Rattle.demands.specs.Damaged.{GoodBook, DamagedBook}
use Rattle.demands.specs.DemandNone.{Contradictor, Checker, NoneCall, SoundNone, CompleteNone, WritesNone, TellsLengthNone}
use Rattle.demands.specs.DemandNone.{TellsReading, WritesOnlyNone, ContradictStops, DemandNone}
use Rattle.demands.proofs.Damaged.{good-is, damaged-bad, every-book}
use Rattle.demands.proofs.Calls.{along, written_as, book-fits}
use Rattle.demands.proofs.Ours3.{accepted-row}

-- ---- the checker

our-sound : SoundNone check_of
our-sound book s e = (book_in book, (accepted-row (checked-row book s e)).1, check-contrary book s e)

pub our-complete : CompleteNone check_of
our-complete book s b g k h = let e = good-is book g in check-complete book s (rw e g) NoReading (rw e k) h

-- ---- the writer

abbrev told : Answered Handed → Told Handed
told a = a.told

-- a call with a good book is answered without a place
data Unplaced : Told Handed → Type 0 where
  by-paper : {s : Handed} → Unplaced (success s)
  by_values : {i : ℕ} {l : List ℕ} → Unplaced (refused_with i l)
  by_number : {i : ℕ} → Unplaced (refused i)

module _ (b : Book) (limit : ℕ) (buffer : List ℕ) where
  abbrev Answers : Answered Handed → Type 0
  Answers a = Unplaced a.told

  course-answers : (c : Course) (tries : ℕ) (whole : List ℕ) → Answers (after_paper_walk c NoReading limit tries whole buffer)
  unfolding after_paper_walk hand_over
  course-answers writing tries whole =
      lt-either Answers _ _ _ _ (λ h. by_number) λ h. lt-either Answers _ _ _ _ (λ g. by_number) λ g. by-paper
  course-answers limited tries whole = by_values
  course-answers refuted tries whole = by_number

  answers : Answers (write_in b NoReading limit buffer)
  unfolding write_in unwitnessed
  answers = course-answers _ _ _

module _ (book : List ℕ) (limit : ℕ) (buffer : List ℕ) where
  bad-told : {i at : ℕ} → DamagedBook book i at → (contradict_of book limit buffer).told ≡ refused_at i at
  bad-told d = ap told (write-bad-book book NoReading limit buffer _ _ (damaged-bad book d))

  not-placed : {A : Type 0} {i at : ℕ} → Unplaced (refused_at i at) → A
  not-placed u = elim u [ ]

  damaged-told : (i at : ℕ) → ((contradict_of book limit buffer).told ≡ refused_at i at) ↔ DamagedBook book i at
  damaged-told i at = (
    λ e. ⊎_elim (λ (b, g). not-placed (subst Unplaced (ap told (sym (written_as g NoReading limit buffer)) ∙ e) (answers b limit buffer)))
        (λ (j, p, d). let z = sym (bad-told d) ∙ e in let u : j ≡ i = cc in let v : p ≡ at = cc in rw (u, v) at d) (every-book book),
    bad-told,
  )

  module _ (bytes : Bytes book) {b : Book} (g : GoodBook book b) {n : ℕ} (needs : Needs b (events b nothing) 1 n) where
    told_in : (contradict_of book limit buffer).told ≡ (write_in b NoReading limit buffer).told
    told_in = ap told (written_as g NoReading limit buffer)

    stopped_by : ((contradict_of book limit buffer).told ≡ stopped limit) ↔ (limit < n)
    stopped_by = along (stopped limit) told_in (contradict-stopped b (book-fits g bytes).rules limit buffer needs)

our-stops : ContradictStops contradict_of
our-stops book b limit buffer bytes g = (
  λ e. let (n, needs) = needs-some b (events b nothing) 1 (omega arith) in (n, needs, (stopped_by book limit buffer bytes g needs).0 e),
  λ (n, needs, h). (stopped_by book limit buffer bytes g needs).1 h,
)

our_writes : WritesNone contradict_of
our_writes book b limit n buffer c f room most =
    let few = (book-fits c.good_book c.bytes).rules in
    let e = written_as c.good_book NoReading limit buffer ∙ contradict-paper b few limit buffer c.needs c.within f room most in
    (contrary-keeps b few f, ap told e, ap (λ (a : Answered Handed). a.buffer) e)

our-length : TellsLengthNone contradict_of
our-length book b limit n buffer c f =
    along (refused 14) (told_in book limit buffer c.bytes c.good_book c.needs)
    (contradict-too-long b (book-fits c.good_book c.bytes).rules limit buffer c.needs c.within f)

our-reading : TellsReading contradict_of
our-reading book b limit n buffer c =
    along (refused 38) (told_in book limit buffer c.bytes c.good_book c.needs)
    (contradict-has b (book-fits c.good_book c.bytes).rules limit buffer c.needs c.within)

our-only : WritesOnlyNone contradict_of
our-only book bytes limit buffer t m e = ⊎_elim
    (λ (b, g).
    let (n, needs) = needs-some b (events b nothing) 1 (omega arith) in
    let same = written_as g NoReading limit buffer in
    let (p, size, room, most, stands, k) =
    contradict-written b (book-fits g bytes).rules limit buffer needs (ap told (sym same) ∙ e) in
    let there = ap (λ (a : Answered Handed). a.buffer) same ∙ stands in
    let front : take m (contradict_of book limit buffer).buffer ≡ bare_for b NoReading =
    ap (take m) there ∙ take_at (bare_for b NoReading) _ m (sym size) in
    (b, g, most, room, rw front k, ap (drop m) there ∙ drop_at (bare_for b NoReading) _ m (sym size)))
    (λ (i, at, d). let z = sym (bad-told book limit buffer d) ∙ e in apart (cc)) (every-book book)

pub ours-none : DemandNone contradict_of check_of
ours-none = record {
  sound = our-sound;
  complete = our-complete;
  writes = our_writes;
  writes-only = our-only;
  tells-length = our-length;
  tells-reading = our-reading;
  stops = our-stops;
  contradict-book = damaged-told;
  contradict-keeps = λ book limit buffer f.
      ⊎_elim (λ (t, n, e). absurd (f t n e)) (λ e. e) (write-keeps-buffer book NoReading limit buffer);
}

-- ---- the demands leave nothing open

module _ (book : List ℕ) (bytes : Bytes book) (limit : ℕ) (buffer : List ℕ) where
  -- every such writer answers so
  Contradicts : Answered Handed → Type 0
  Contradicts r = (f : Contradictor) (check : Checker) → DemandNone f check → f book limit buffer ≡ r

  leaves : (t : Told Handed) → ((u n : ℕ) → t ≡ paper u n → ⊥)
      → ((f : Contradictor) (check : Checker) → DemandNone f check → (f book limit buffer).told ≡ t)
      → Contradicts (record { told = t; buffer = buffer })
  unfolding Contradicts
  leaves t n tells f check d =
      let e = tells f check d in
      let kept = d.contradict-keeps book limit buffer (λ u m z. n u m (sym e ∙ z)) in
      λ i. record { told = e i; buffer = kept i }

  module _ {b : Book} {n : ℕ} (c : NoneCall book b limit n) where
    long : Contrary b → (length buffer < length (bare_for b NoReading)) ⊎ (paper_bytes < length (bare_for b NoReading))
        → Contradicts (record { told = refused 14; buffer = buffer })
    long f l = leaves (refused 14) (λ u m z. apart (cc)) (λ g check d. (d.tells-length book b limit n buffer c f).1 l)

    contrary-answer : Contrary b → (r : Answered Handed) × Contradicts r
    unfolding Contradicts
    contrary-answer f = ⊎_elim (λ l. (_, long f (inl l))) (λ l. ⊎_elim (λ m. (_, long f (inr m)))
        (λ m. (_, λ g check d. let (k, p, q) = d.writes book b limit n buffer c f l m in λ i. record { told = p i; buffer = q i }))
        (lt-or-le paper_bytes (length (bare_for b NoReading)))) (lt-or-le (length buffer) (length (bare_for b NoReading)))

  good-answer : {b : Book} → GoodBook book b → {n : ℕ} → Needs b (events b nothing) 1 n → (r : Answered Handed) × Contradicts r
  good-answer {b} g {n} needs = ⊎_elim
      (λ h. (_, leaves (stopped limit) (λ u m z. apart (cc)) (λ f check d. (d.stops book b limit buffer bytes g).1 (n, needs, h))))
      (λ h. within needs (record { bytes = bytes; good_book = g; needs = needs; within = h })) (lt-or-le limit n)
    where
      within : {n : ℕ} → Needs b (events b nothing) 1 n → NoneCall book b limit n → (r : Answered Handed) × Contradicts r
      within {n} (to-reading {x = x} first) c = (
        _,
        leaves (refused 38) (λ u m z. apart (cc))
            (λ f check d. (d.tells-reading book b limit n buffer c).1 (x, kth-answer b (book-fits g bytes).rules first)),
      )
      within (to_end f) c = contrary-answer c (fewer-none b (book-fits g bytes).rules f)

  one_answer : (r : Answered Handed) × Contradicts r
  one_answer = ⊎_elim (λ (b, g). good-answer g (needs-some b (events b nothing) 1 (omega arith)).1)
      (λ (i, at, d). (_, leaves (refused_at i at) (λ u n z. apart (cc)) (λ f check p. (p.contradict-book book limit buffer i at).1 d)))
      (every-book book)

  pub contradict-only : (f : Contradictor) (check : Checker) → DemandNone f check → f book limit buffer ≡ contradict_of book limit buffer
  unfolding Contradicts
  contradict-only f check d = let (r, g) = one_answer in g f check d ∙ sym (g contradict_of check_of ours-none)
