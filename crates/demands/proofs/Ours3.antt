-- Our engine meets demand 3 and its twin, by one proof over the kind of claim: from the checker's laws of acceptance and the writer's laws of
-- a claim; the paper that is handed over is accepted by checking; and no book has accepted papers of both kinds for one atom.
use mathlib.Core.Path.{◌≡◌, refl, sym, ◌∙◌, ap, subst}
use mathlib.Core.Logic.{◌⊎◌, inl, inr, ⊎_elim, ◌↔◌}
use mathlib.Core.Bool.{true}
use mathlib.Core.List.{List, ◌++◌}
use Prim.Native.Nat.{ℕ, ◌≤◌, ◌<◌}
use native.Mathlib.Omega.{arith}
use lib.ListN.{length, take, drop, length-take}
use lib.Seq.{take_at, drop_at}
use Rattle.meaning.specs.declared.AtomNo.{AtomNo}
use Rattle.meaning.specs.Sets.{every}
use Rattle.meaning.specs.Books.{Atoms, Book}
use Rattle.meaning.specs.AnswerSet.{AnswerSet, Throughout}
use Rattle.meaning.specs.Colours.{start}
use Rattle.meaning.specs.declared.kind.Kind.{Kind}
use Rattle.meaning.specs.declared.kind.Kind.TheVariants.{Naming, Clearing}
use Rattle.meaning.specs.declared.kind.Claim.{Claim}
use Rattle.meaning.specs.Claim.{claim, meant, Holding}
use Rattle.meaning.specs.Paper.{Keeps, paper_bytes}
use Rattle.meaning.specs.Told.{Told, success, refused_at, refused, fewer, Answered}
use Rattle.meaning.proofs.Tests.{decided, true-and-false, lt-or-le}
use Rattle.meaning.proofs.Claims.{claim-holds, not-both}
use Rattle.book.specs.Format.{book_in}
use Rattle.book.specs.Rows.{Bytes}
use Rattle.meaning.specs.Written.{nothing}
use Rattle.walk.specs.Events.{events}
use Rattle.walk.specs.Tries.{Kth, to-reading}
use Rattle.writer.specs.Branches.{branches}
use Rattle.writer.specs.PaperNeeds.{settled, Stuck, to-stuck, to_last, paper_for}
use Rattle.writer.specs.Write.{Handed, paper, lacking, write_in, write_of, name_of, clear_of}
use Rattle.writer.proofs.PaperNeeds.{stuck-some, paper-needs-one}
use Rattle.writer.proofs.Papers.{settled-each, unsettled-one, certain-settled}
use Rattle.walk.proofs.FirstWalk.{kth-answer}
use Rattle.writer.proofs.Ways.{Nameable}
use Rattle.writer.proofs.Claiming.{write-writes, write-written, write-lacks, write-lacking, write-too-long}
use Rattle.checker.specs.Numbers.{accepted, certain, clear}
use Rattle.checker.specs.Check.{check_of}
use Rattle.checker.specs.Rows.{claim_of}
use Rattle.checker.proofs.Marked.{claim-about}
use Rattle.checker.proofs.Rows.{CheckRow, at-paper, checked-row, nowhere}
use Rattle.checker.proofs.Accepted.{check_sound, check-complete}
use Rattle.demands.specs.Engine.{Engine, ours}
use Rattle.demands.specs.Damaged.{GoodBook}
use Rattle.demands.specs.Demand2.{Asking}
use Rattle.demands.specs.Demand3.{Sound, Complete, InLimit, WritesOnly, Papers, Demand3, Demand3Twin}
use Rattle.demands.proofs.Damaged.{good-is, every-book}
use Rattle.demands.proofs.Calls.{along, written_as, nameable}
use Rattle.demands.proofs.Ours1.{ours-1}

-- ---- the checker

-- what is accepted is the claim that the paper makes, of a good book
pub accepted-row : {book s : List ℕ} {k : Claim} → CheckRow book s (success k) → (claim_of s ≡ k) × GoodBook book (book_in book)
accepted-row (at-paper g (nowhere f w v)) = (refl, g)

check-accepts-sound : (q : Kind) → Sound q ours
check-accepts-sound q book s a e =
    let (k, g) = accepted-row (checked-row book s e) in let (p, r) = claim-about s k in (p, r, (book_in book, g, check_sound book s e))

check-accepts-all : (q : Kind) → Complete q ours
check-accepts-all q book s b a g k h =
    let e = good-is book g in check-complete book s (rw e g) (claim q a) (rw e k) h

-- ---- the writer

-- a claim about an atom of a book with a reading holds if every branch of the paper's walk is settled, and only then
module _ {book : List ℕ} {b : Book} {a : AtomNo} (q : Kind) (c : Asking book b a) {t : ℕ} {x : Atoms} (first : Kth b (events b nothing) 1 t x) where
  pub settled-holds : every settled (branches b (claim q a) start) ≡ true → Holding q b a
  settled-holds s =
      let few = (nameable c).few-rules in
      (claim-holds b q a).0 (record { one = (x, kth-answer b few first); each = settled-each b (claim q a) few s })

  pub holds-or-not : Holding q b a ⊎ (Holding q b a → ⊥)
  holds-or-not = ⊎_elim (λ s. inl (settled-holds s))
      (λ s. inr (λ t.
      let (y, answer, n) = unsettled-one b (claim q a) (nameable c).few-rules s in
      true-and-false (((claim-holds b q a).1 t).each y answer) n))
      (decided (every settled (branches b (claim q a) start)))

module _ (q : Kind) (book : List ℕ) (b : Book) (a : AtomNo) (limit : ℕ) (buffer : List ℕ) (c : Asking book b a) where
  abbrev k : Claim
  k = claim q a

  abbrev good : Nameable b a
  good = nameable c

  as_written : write_of book k limit buffer ≡ write_in b k limit buffer
  as_written = written_as c.good_book k limit buffer

  throughout : Holding q b a → Throughout b (meant k)
  throughout = (claim-holds b q a).1

  module _ (x : Atoms) (m : ℕ) (w : InLimit b k limit x m) where
    first-answer : AnswerSet b x
    first-answer = kth-answer b good.few-rules w.first

    branches-needed : every settled (branches b k start) ≡ true → length (branches b k start) ≡ m
    branches-needed s = paper-needs-one b k (to_last s) w.needs

    writes : Holding q b a → length (paper_for b k x) ≤ length buffer → length (paper_for b k x) ≤ paper_bytes
        → Keeps b k (paper_for b k x)
        × ((write_of book k limit buffer).told ≡ paper m (length (paper_for b k x)))
        × ((write_of book k limit buffer).buffer ≡ paper_for b k x ++ drop (length (paper_for b k x)) buffer)
    writes t room most =
        let n = branches-needed (certain-settled b k good.few-rules (throughout t)) in
        let l = w.paper-within in
        let (e, p) = write-writes b q a limit buffer good (throughout t) w.first w.first-within (omega arith) room most in (
          p,
          ap (λ (r : Answered Handed). r.told) (as_written ∙ e) ∙ ap (λ (i : ℕ). paper i (length (paper_for b k x))) n,
          ap (λ (r : Answered Handed). r.buffer) (as_written ∙ e),
        )

    tells-length : Holding q b a → ((write_of book k limit buffer).told ≡ refused 14)
        ↔ ((length buffer < length (paper_for b k x)) ⊎ (paper_bytes < length (paper_for b k x)))
    tells-length t = along (refused 14) (ap (λ (r : Answered Handed). r.told) as_written)
        (write-too-long b q a limit buffer good (to-reading w.first) w.first-within (x, first-answer) w.needs
        w.paper-within (certain-settled b k good.few-rules (throughout t)) w.first)

    -- the claim does not hold: some branch is left unsettled
    stuck-lacking : (Holding q b a → ⊥) → Stuck b k m
    stuck-lacking u = ⊎_elim (λ s. absurd (u (settled-holds q c w.first s)))
        (λ s. let (n, p) = stuck-some b k s in rw (paper-needs-one b k (to-stuck p) w.needs) at p)
        (decided (every settled (branches b k start)))

    tells-lacking : ((write_of book k limit buffer).told ≡ refused (lacking q)) ↔ (Holding q b a → ⊥)
    tells-lacking = along (refused (lacking q)) (ap (λ (r : Answered Handed). r.told) as_written) (
      λ e t. let (y, answer, n) = write-lacks b q a limit buffer good e in true-and-false ((throughout t).each y answer) n,
      λ u. (write-lacking b q a limit buffer good (to-reading w.first) w.first-within (x, first-answer) w.needs
          w.paper-within).1 (stuck-lacking u),
    )

-- answers to calls with a good book and an atom of it
pub data GoodAsking : Told Handed → Type 0 where
  told-paper : {t n : ℕ} → GoodAsking (paper t n)
  told_none : {t n r : ℕ} → GoodAsking (fewer t n r)

-- a call that we answer so has them
pub asking-of : (q : Kind) (book : List ℕ) → Bytes book → (a : AtomNo) (limit : ℕ) (buffer : List ℕ) {t : Told Handed}
    → GoodAsking t → (write_of book (claim q a) limit buffer).told ≡ t → (b : Book) × Asking book b a
asking-of q book bytes a limit buffer w told = ⊎_elim
    (λ (b, g). (b, record { bytes = bytes; good_book = g; good-number = below b g }))
    (λ (i, at, d). not-placed (other ((ours-1.write-book q book a limit buffer i at).1 d))) (every-book book)
  where
    other : {u : Told Handed} → (write_of book (claim q a) limit buffer).told ≡ u → GoodAsking u
    other p = subst GoodAsking (sym told ∙ p) w

    not-placed : {A : Type 0} {i at : ℕ} → GoodAsking (refused_at i at) → A
    not-placed x = elim x [ ]

    not-numbered : {A : Type 0} {i : ℕ} → GoodAsking (refused i) → A
    not-numbered x = elim x [ ]

    below : (b : Book) → GoodBook book b → a.0 < b.atoms
    below b g = ⊎_elim (λ h. h) (λ h. not-numbered (other ((ours-1.write-atom q book a limit buffer).1 (b, g, h))))
        (lt-or-le a.0 b.atoms)

writes-only : (q : Kind) → WritesOnly q ours
writes-only q book bytes a limit buffer t n e =
    let (b, c) = asking-of q book bytes a limit buffer told-paper e in
    let same = as_written q book b a limit buffer c in
    let told = ap (λ (r : Answered Handed). r.told) (sym same) ∙ e in
    let (x, answer, p, size, room, most, stands, k) = write-written b q a limit buffer (nameable c) told in
    let there = ap (λ (r : Answered Handed). r.buffer) same ∙ stands in
    let front : take n (write_of book (claim q a) limit buffer).buffer ≡ paper_for b (claim q a) x =
    ap (take n) there ∙ take_at (paper_for b (claim q a) x) _ n (sym size) in
    (b, c.good_book, most, room, rw front k, ap (drop n) there ∙ drop_at (paper_for b (claim q a) x) _ n (sym size))

pub our-papers : (q : Kind) → Papers q ours
our-papers q = record {
  sound = check-accepts-sound q;
  complete = check-accepts-all q;
  writes = λ book b a limit buffer c t x m w. writes q book b a limit buffer c x m w t;
  writes-only = writes-only q;
  tells-length = λ book b a limit buffer c t x m w. tells-length q book b a limit buffer c x m w t;
  tells-lacking = tells-lacking q;
}

pub ours-3 : Demand3 ours
ours-3 = our-papers Naming

pub ours-3-twin : Demand3Twin ours
ours-3-twin = our-papers Clearing

-- ---- end to end

-- whatever engine meets the demand for papers of a kind: the paper that it tells is accepted by its own checker
pub paper-accepted : (q : Kind) {e : Engine} → Papers q e → (book : List ℕ) → Bytes book → (a : AtomNo) (limit : ℕ) (buffer : List ℕ)
    (t n : ℕ) → (e.write q book a limit buffer).told ≡ paper t n
    → e.check book (take n (e.write q book a limit buffer).buffer) ≡ accepted q a
paper-accepted q {e} d book bytes a limit buffer t n told =
    let (b, g, most, room, k, later) = d.writes-only book bytes a limit buffer t n told in
    d.complete book _ b a g k (simp length-take (omega arith))

pub our-paper-accepted : (q : Kind) (book : List ℕ) → Bytes book → (a : AtomNo) (limit : ℕ) (buffer : List ℕ) (t n : ℕ)
    → (write_of book (claim q a) limit buffer).told ≡ paper t n
    → check_of book (take n (write_of book (claim q a) limit buffer).buffer) ≡ accepted q a
our-paper-accepted q = paper-accepted q (our-papers q)

-- ---- nobody is both named and cleared

-- "no book has accepted papers of both kinds for one atom", by any checker that is sound for both
pub never_both : (e : Engine) → Sound Naming e → Sound Clearing e → (book s t : List ℕ) (a : AtomNo)
    → e.check book s ≡ certain a → e.check book t ≡ clear a → ⊥
unfolding Holding
never_both e names clears book s t a p r =
    let (x, i, (b, g, c)) = names book s a p in
    let (y, j, (d, h, n)) = clears book t a r in
    not-both b a c (rw (sym (good-is book h) ∙ good-is book g) at n)

-- where our checker accepts a paper that names the atom, our writer never tells one that clears it; and the other way round
pub named-not-cleared : (book : List ℕ) → Bytes book → (s : List ℕ) (a : AtomNo) → check_of book s ≡ certain a
    → (limit : ℕ) (buffer : List ℕ) (t n : ℕ) → (clear_of book a limit buffer).told ≡ paper t n → ⊥
named-not-cleared book bytes s a p limit buffer t n told =
    never_both ours ours-3.sound ours-3-twin.sound book s _ a p (our-paper-accepted Clearing book bytes a limit buffer t n told)

pub cleared-not-named : (book : List ℕ) → Bytes book → (s : List ℕ) (a : AtomNo) → check_of book s ≡ clear a
    → (limit : ℕ) (buffer : List ℕ) (t n : ℕ) → (name_of book a limit buffer).told ≡ paper t n → ⊥
cleared-not-named book bytes s a p limit buffer t n told =
    never_both ours ours-3.sound ours-3-twin.sound book _ s a (our-paper-accepted Naming book bytes a limit buffer t n told) p
