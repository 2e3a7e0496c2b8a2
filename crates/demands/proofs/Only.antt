-- The demands leave nothing open: an engine that meets them answers every call as ours does, and leaves the same bytes in the buffer. For
-- each call one answer is found that every engine gives which meets the demands; ours is one of them. Document 01, "What the promises say".
use mathlib.Core.Path.{◌≡◌, sym, ◌∙◌}
use mathlib.Core.Logic.{◌⊎◌, inl, inr, ⊎_elim}
use mathlib.Core.List.{List, ◌++◌}
use Prim.Native.Nat.{ℕ, ◌≤◌, ◌<◌}
use native.Mathlib.Omega.{arith}
use lib.ListN.{length, drop}
use Rattle.meaning.specs.declared.AtomNo.{AtomNo}
use Rattle.meaning.specs.Books.{Atoms, Book}
use Rattle.meaning.specs.AnswerSet.{AnswerSet}
use Rattle.meaning.specs.declared.kind.Kind.{Kind}
use Rattle.meaning.specs.declared.kind.Claim.{Claim}
use Rattle.meaning.specs.declared.kind.Claim.TheVariants.{About, NoReading}
use Rattle.meaning.specs.Claim.{claim, Holding}
use Rattle.meaning.specs.Told.{Told, refused_at, refused, fewer, stopped, Answered}
use Rattle.meaning.proofs.Tests.{lt-or-le, apart}
use Rattle.meaning.specs.Paper.{Keeps, paper_bytes}
use Rattle.book.specs.Rows.{Bytes}
use Rattle.meaning.specs.Written.{nothing}
use Rattle.walk.specs.Events.{events}
use Rattle.walk.specs.Tries.{Needs, to-reading, to_end, last_clash}
use Rattle.walk.specs.Find.{fixed_walk, find_of}
use Rattle.walk.proofs.Needs.{needs-some}
use Rattle.writer.specs.PaperNeeds.{paper_for}
use Rattle.writer.specs.Write.{Handed, paper, lacking, write_of}
use Rattle.writer.proofs.PaperNeeds.{paper-needs-some}
use Rattle.walk.proofs.FirstWalk.{kth-answer, fewer-none}
use Rattle.checker.specs.Check.{check_of}
use Rattle.demands.specs.Engine.{Engine, ours}
use Rattle.demands.specs.Damaged.{GoodBook, DamagedBook, DamagedPaper}
use Rattle.demands.specs.Demand1.{Demand1}
use Rattle.demands.specs.Demand2.{Asking, Demand2}
use Rattle.demands.specs.Demand3.{InLimit, Papers}
use Rattle.demands.specs.FindsBy.{FindsBy}
use Rattle.demands.specs.DemandNone.{CompleteNone}
use Rattle.demands.proofs.Damaged.{every-book, every-paper}
use Rattle.demands.proofs.Calls.{readings-there, nameable}
use Rattle.demands.proofs.Found.{finds-only}
use Rattle.demands.proofs.Ours1.{ours-1}
use Rattle.demands.proofs.Ours2.{ours-2}
use Rattle.demands.proofs.Ours3.{holds-or-not, our-papers}
use Rattle.demands.proofs.OursNone.{our-complete}

-- ---- finding

-- whoever meets demands 1 and 2 finds along the fixed walk
finds-fixed : (e : Engine) → Demand1 e → Demand2 e → FindsBy fixed_walk e.find
finds-fixed e p q = record {
  tells-book = p.find-book;
  tells-number = p.find-number;
  tells-room = p.find-room;
  keeps = p.find-keeps;
  gives = λ book b k limit answer c.
      q.gives-readings book b k limit answer c _ (readings-there c.good_book c.bytes);
  stops = q.stops;
  tells-fewer = λ book b k limit answer c.
      q.tells-fewer book b k limit answer c _ (readings-there c.good_book c.bytes);
}

pub find-only : (book : List ℕ) → Bytes book → (k limit : ℕ) (answer : List ℕ) (e : Engine) → Demand1 e → Demand2 e
    → e.find book k limit answer ≡ find_of book k limit answer
find-only book bytes k limit answer e p q = finds-only fixed_walk book bytes k limit answer e.find (finds-fixed e p q)

-- ---- naming and clearing

module _ (q : Kind) (book : List ℕ) (bytes : Bytes book) (a : AtomNo) (limit : ℕ) (buffer : List ℕ) where
  Writes : Answered Handed → Type 0
  Writes r = (e : Engine) → Demand1 e → Demand2 e → Papers q e → e.write q book a limit buffer ≡ r

  leaves : (t : Told Handed) → ((u n : ℕ) → t ≡ paper u n → ⊥)
      → ((e : Engine) → Demand1 e → Demand2 e → Papers q e → (e.write q book a limit buffer).told ≡ t)
      → Writes (record { told = t; buffer = buffer })
  unfolding Writes
  leaves t n f e p s r =
      let told = f e p s r in
      let kept = p.write_keeps q book a limit buffer (λ u m z. n u m (sym told ∙ z)) in
      λ i. record { told = told i; buffer = kept i }

  module _ {b : Book} (c : Asking book b a) where
    abbrev own : Atoms → List ℕ
    own x = paper_for b (claim q a) x

    -- within the limit: 12, or 14, or the paper
    module _ (x : Atoms) (m : ℕ) (w : InLimit b (claim q a) limit x m) where
      writes : Holding q b a → length (own x) ≤ length buffer → length (own x) ≤ paper_bytes
          → Writes (record { told = paper m (length (own x)); buffer = own x ++ drop (length (own x)) buffer })
      unfolding Writes
      writes t room most e p s r =
          let (k, told, stands) = r.writes book b a limit buffer c t x m w room most in
          λ i. record { told = told i; buffer = stands i }

      long : Holding q b a → (length buffer < length (own x)) ⊎ (paper_bytes < length (own x))
          → Writes (record { told = refused 14; buffer = buffer })
      long t l = leaves (refused 14) (λ u n z. apart (cc)) (λ e p s r. (r.tells-length book b a limit buffer c t x m w).1 l)

      within-written : (r : Answered Handed) × Writes r
      within-written = ⊎_elim
          (λ t. ⊎_elim (λ l. (_, long t (inl l))) (λ l. ⊎_elim (λ h. (_, long t (inr h))) (λ h. (_, writes t l h))
          (lt-or-le paper_bytes (length (own x)))) (lt-or-le (length buffer) (length (own x))))
          (λ u. (_, leaves (refused (lacking q)) (λ t n z. apart (cc)) (λ e p s r. (r.tells-lacking book b a limit buffer c x m w).1 u)))
          (holds-or-not q c w.first)

    call-written : (r : Answered Handed) × Writes r
    call-written = by (needs-some b (events b nothing) 1 (omega arith)).1
      where
        stops : {n : ℕ} → Needs b (events b nothing) 1 n
            → (limit < n) ⊎ ((n ≤ limit) × ((x : Atoms) × AnswerSet b x) × (limit < (paper-needs-some b (claim q a)).0))
            → Writes (record { told = stopped limit; buffer = buffer })
        stops needs l = leaves (stopped limit) (λ u n z. apart (cc))
            (λ e p s r. (s.asking-stops q book b a limit buffer c _ _ needs (paper-needs-some b (claim q a)).1).1 l)

        by : {n : ℕ} → Needs b (events b nothing) 1 n → (r : Answered Handed) × Writes r
        by {n} (to-reading {x = x} first) = ⊎_elim (λ h. (_, stops (to-reading first) (inl h)))
            (λ h. let (m, needs) = paper-needs-some b (claim q a) in ⊎_elim
            (λ l. (_, stops (to-reading first) (inr (h, (x, kth-answer b (nameable c).few-rules first), l))))
            (λ l. within-written x m (record { tries = n; first = first; first-within = h; needs = needs; paper-within = l }))
            (lt-or-le limit m)) (lt-or-le limit n)
        by {n} (to_end f) = ⊎_elim (λ h. (_, stops (to_end f) (inl h)))
            (λ h. (
              _,
              leaves (fewer n 0 (last_clash (events b nothing))) (λ u m z. apart (cc))
                  (λ e p s r. (s.asking-fewer q book b a limit buffer c n (to_end f) h).1 (fewer-none b (nameable c).few-rules f)),
            )) (lt-or-le limit n)

  written_one : (r : Answered Handed) × Writes r
  written_one = ⊎_elim
      (λ (b, g). ⊎_elim (λ h. call-written (record { bytes = bytes; good_book = g; good-number = h }))
      (λ h. (_, leaves (refused 13) (λ u n z. apart (cc)) (λ e p s r. (p.write-atom q book a limit buffer).1 (b, g, h))))
      (lt-or-le a.0 b.atoms))
      (λ (i, at, d). (_, leaves (refused_at i at) (λ u n z. apart (cc)) (λ e p s r. (p.write-book q book a limit buffer i at).1 d)))
      (every-book book)

  pub write-only : (e : Engine) → Demand1 e → Demand2 e → Papers q e → e.write q book a limit buffer ≡ write_of book (claim q a) limit buffer
  unfolding Writes
  write-only e p s r = let (z, f) = written_one in f e p s r ∙ sym (f ours ours-1 ours-2 (our-papers q))

-- ---- checking

-- an engine that meets the demands for papers of every claim
pub check-only : (book s : List ℕ) → Bytes s → (e : Engine) → Demand1 e → ((q : Kind) → Papers q e) → CompleteNone e.check
    → e.check book s ≡ check_of book s
check-only book s bytes e p r n = ⊎_elim
    (λ (b, g). ⊎_elim (λ (k, m, h). kept b g k m h) (λ (i, at, d). both i at (inr (b, g, d))) (every-paper book s bytes g))
    (λ (i, at, d). both i at (inl d)) (every-book book)
  where
    kept : (b : Book) → GoodBook book b → (k : Claim) → Keeps b k s → length s ≤ paper_bytes → e.check book s ≡ check_of book s
    kept b g (About q a) m h = (r q).complete book s b a g m h ∙ sym ((our-papers q).complete book s b a g m h)
    kept b g NoReading m h = n book s b g m h ∙ sym (our-complete book s b g m h)

    both : (i at : ℕ) → DamagedBook book i at ⊎ ((b : Book) × GoodBook book b × DamagedPaper b s i at) → e.check book s ≡ check_of book s
    both i at d = (p.check-bytes book s i at).1 d ∙ sym ((ours-1.check-bytes book s i at).1 d)
