-- What one sentence of a demand says of any engine at a call, told by our answer to the same call: where ours gives a reading, tells
-- fewer, writes a paper, accepts or stops, so does every engine of which that sentence holds. Each is the sentence at the values that our
-- laws find.
use mathlib.Core.Path.{◌≡◌, sym, ◌∙◌, ap, subst}
use mathlib.Core.Logic.{⊎_elim, ◌↔◌}
use mathlib.Core.Bool.{true}
use mathlib.Core.List.{List, [], ◌∷◌}
use Prim.Native.Nat.{ℕ, zero, suc, ◌≤◌, ◌<◌}
use native.Mathlib.Omega.{arith}
use lib.Dec.{ltb}
use lib.ListN.{length}
use borrow.Author.Tests.{ltb-true}
use Rattle.meaning.specs.declared.AtomNo.{AtomNo}
use Rattle.meaning.specs.Sets.{every}
use Rattle.meaning.specs.Books.{Atoms, Book}
use Rattle.meaning.specs.declared.kind.Kind.{Kind}
use Rattle.meaning.specs.Claim.{claim}
use Rattle.meaning.specs.Written.{nothing}
use Rattle.meaning.specs.Told.{Told, refused_at, refused, fewer, stopped, Answered}
use Rattle.meaning.proofs.Tests.{and_left, and_right, lt-or-le, apart}
use Rattle.meaning.specs.Paper.{paper_bytes}
use Rattle.book.specs.Format.{book_in}
use Rattle.book.specs.Rows.{Bytes}
use Rattle.walk.specs.Events.{events}
use Rattle.walk.specs.Readings.{readings}
use Rattle.walk.specs.Tries.{to-reading, to_end}
use Rattle.walk.specs.Find.{set, fixed_walk, find_of}
use Rattle.walk.proofs.Needs.{kth-count}
use Rattle.walk.proofs.Demand.{find-set}
use Rattle.writer.specs.PaperNeeds.{to_last, paper_for}
use Rattle.writer.specs.Write.{Handed, paper, write_of}
use Rattle.walk.proofs.FirstWalk.{fewer-none}
use Rattle.writer.proofs.Ways.{Found, Settled, Outcome, first-stopped, no-reading, paper-stopped, got-stuck, too_long, handed-over}
use Rattle.writer.proofs.Ways.{write-outcome}
use Rattle.checker.specs.Numbers.{accepted}
use Rattle.checker.specs.Check.{check_of}
use Rattle.checker.proofs.Accepted.{check-exact}
use Rattle.demands.specs.Engine.{Engine}
use Rattle.demands.specs.Demand2.{Call, GivesReadings, Stops, TellsFewer, AskingFewer}
use Rattle.demands.specs.Demand3.{Complete, InLimit, Writes}
use Rattle.demands.proofs.Damaged.{every-book}
use Rattle.demands.proofs.Calls.{found_as, written_as, readings-there, call-counts, nameable}
use Rattle.demands.proofs.Ours1.{ours-1}
use Rattle.demands.proofs.Ours2.{ours-2}
use Rattle.demands.proofs.Ours3.{settled-holds, told-paper, told_none, asking-of, our-papers}

pub bytes-of : (l : List ℕ) → every (λ n. ltb n 256) l ≡ true → Bytes l
unfolding every
bytes-of [] e i = omega arith
bytes-of (x ∷ l) e zero = ltb-true x 256 (and_left (ltb x 256) _ e)
bytes-of (x ∷ l) e (suc i) = bytes-of l (and_right (ltb x 256) _ e) i

-- ---- finding

-- the answers to good calls
pub data Good : Told ℕ → Type 0 where
  good-set : {t : ℕ} → Good (set t)
  good-fewer : {t n r : ℕ} → Good (fewer t n r)
  good-stop : {l : ℕ} → Good (stopped l)

module _ (book : List ℕ) (bytes : Bytes book) (k limit : ℕ) (answer : List ℕ) where
  -- a call that we answer so is good
  call-of : {t : Told ℕ} → Good t → (find_of book k limit answer).told ≡ t → (b : Book) × Call book b k answer
  call-of {t} w e = ⊎_elim
      (λ (b, g). (
        b,
        record {
          bytes = bytes;
          good_book = g;
          good-number = ⊎_elim (λ h. h) (λ h. not-numbered (other ((ours-1.find-number book k limit answer).1 (b, g, omega arith))))
              (lt-or-le 0 k);
          good-room = ⊎_elim (λ h. ⊎_elim (λ n. not-numbered (other ((ours-1.find-room book k limit answer).1 (b, g, n, h))))
              (λ n. not-numbered (other ((ours-1.find-number book k limit answer).1 (b, g, omega arith)))) (lt-or-le 0 k))
              (λ h. h) (lt-or-le (length answer) b.atoms);
        },
      ))
      (λ (i, at, d). not-placed (other ((ours-1.find-book book k limit answer i at).1 d))) (every-book book)
    where
      other : {u : Told ℕ} → (find_of book k limit answer).told ≡ u → Good u
      other p = subst Good (sym e ∙ p) w

      not-placed : {A : Type 0} {i at : ℕ} → Good (refused_at i at) → A
      not-placed x = elim x [ ]

      not-numbered : {A : Type 0} {i : ℕ} → Good (refused i) → A
      not-numbered x = elim x [ ]

  pub given-as-ours : (e : Engine) → GivesReadings e → {t : ℕ} → (find_of book k limit answer).told ≡ set t
      → e.find book k limit answer ≡ find_of book k limit answer
  given-as-ours e gives {t} told =
      let (b, c) = call-of good-set told in
      let g = c.good_book in
      let ours-told = ap (λ (a : Answered ℕ). a.told) (sym (found_as g fixed_walk k limit answer)) ∙ told in
      let (x, kth, h) = (find-set b (events b nothing) k limit answer c.good-number c.good-room t).0 ours-told in
      let all = readings-there g bytes in
      let n = to-reading kth in
      let l = kth-count b kth in
      let (p, q) = gives book b k limit answer c _ all t n h l in
      let (u, v) = ours-2.gives-readings book b k limit answer c _ all t n h l in
      let same-told = p ∙ sym u in let same_row = q x ∙ sym (v x) in
      λ i. record { told = same-told i; buffer = same_row i }

  pub stops-as-ours : (e : Engine) → Stops e → {t : Told ℕ} → Good t → (find_of book k limit answer).told ≡ t
      → ((e.find book k limit answer).told ≡ stopped limit) ↔ ((find_of book k limit answer).told ≡ stopped limit)
  stops-as-ours e stops w told =
      let (b, c) = call-of w told in
      let (f, g) = stops book b k limit answer c in
      let (u, v) = ours-2.stops book b k limit answer c in
      (λ p. v (f p), λ p. g (u p))

  pub fewer-as-ours : (e : Engine) → TellsFewer e → {t m r : ℕ} → (find_of book k limit answer).told ≡ fewer t m r
      → (e.find book k limit answer).told ≡ fewer t m r
  fewer-as-ours e tells told =
      let (b, c) = call-of good-fewer told in
      let (l, all, n, needs) = call-counts c in
      let within : n ≤ limit = ⊎_elim (λ h. let p = (ours-2.stops book b k limit answer c).1 (n, needs, h) in apart (cc)) (λ h. h)
      (lt-or-le limit n) in
      let few : length l < k = ⊎_elim (λ h. h)
      (λ h. let p = (ours-2.gives-readings book b k limit answer c l all n needs within h).0 in apart (cc)) (lt-or-le (length l) k) in
      (tells book b k limit answer c l all n needs within).1 few
      ∙ sym ((ours-2.tells-fewer book b k limit answer c l all n needs within).1 few) ∙ told

-- ---- checking

module _ (book s : List ℕ) (bytes : Bytes s) where
  pub accepts-as-ours : (q : Kind) (e : Engine) → Complete q e → (a : AtomNo) → check_of book s ≡ accepted q a
      → e.check book s ≡ accepted q a
  accepts-as-ours q e complete a told =
      let (g, k, h) = (check-exact book s bytes (claim q a)).0 told in
      complete book s (book_in book) a g k h

-- ---- naming and clearing

-- our walks were within the limit where a paper was told, and all branches are settled
handed : {b : Book} {q : Kind} {a : AtomNo} {limit : ℕ} {buffer : List ℕ} {r : Answered Handed} → Outcome b q a limit buffer r
    → {t n : ℕ} → r.told ≡ paper t n
    → (x : Atoms) × Found b limit x × Settled b (claim q a) limit × (length (paper_for b (claim q a) x) ≤ length buffer)
    × (length (paper_for b (claim q a) x) ≤ paper_bytes)
handed (first-stopped p h) e = apart (cc)
handed (no-reading h l) e = apart (cc)
handed (paper-stopped f p h) e = apart (cc)
handed (got-stuck f u h) e = apart (cc)
handed (too_long f s l) e = apart (cc)
handed (handed-over {x} f s h l) e = (x, f, s, h, l)

-- where fewer was told, there is no reading, and the whole walk was within the limit
none : {b : Book} {q : Kind} {a : AtomNo} {limit : ℕ} {buffer : List ℕ} {r : Answered Handed} → Outcome b q a limit buffer r
    → {t n c : ℕ} → r.told ≡ fewer t n c → (length (readings b) < 1) × (length (events b nothing) ≤ limit)
none (first-stopped p h) e = apart (cc)
none (no-reading h l) e = (h, l)
none (paper-stopped f p h) e = apart (cc)
none (got-stuck f u h) e = apart (cc)
none (too_long f s l) e = apart (cc)
none (handed-over f s h l) e = apart (cc)

module _ (q : Kind) (book : List ℕ) (bytes : Bytes book) (a : AtomNo) (limit : ℕ) (buffer : List ℕ) where
  pub unwritten-as-ours : (e : Engine) → AskingFewer e → {t n r : ℕ} → (write_of book (claim q a) limit buffer).told ≡ fewer t n r
      → (e.write q book a limit buffer).told ≡ fewer t n r
  unwritten-as-ours e tells told =
      let (b, c) = asking-of q book bytes a limit buffer told_none told in
      let in-book = ap (λ (r : Answered Handed). r.told) (sym (written_as c.good_book (claim q a) limit buffer)) ∙ told in
      let (few, within) = none (write-outcome b q a limit buffer (nameable c)) in-book in
      let lacks = fewer-none b (nameable c).few-rules few in
      (tells q book b a limit buffer c _ (to_end few) within).1 lacks
      ∙ sym ((ours-2.asking-fewer q book b a limit buffer c _ (to_end few) within).1 lacks) ∙ told

  pub written-as-ours : (e : Engine) → Writes q e → {t n : ℕ} → (write_of book (claim q a) limit buffer).told ≡ paper t n
      → e.write q book a limit buffer ≡ write_of book (claim q a) limit buffer
  written-as-ours e writes {t} told =
      let (b, c) = asking-of q book bytes a limit buffer told-paper told in
      let in-book = ap (λ (r : Answered Handed). r.told) (sym (written_as c.good_book (claim q a) limit buffer)) ∙ told in
      let (x, (i, first, h), (all, m), room, most) = handed (write-outcome b q a limit buffer (nameable c)) in-book in
      let w : InLimit b (claim q a) limit x _ =
      record { tries = i; first = first; first-within = h; needs = to_last all; paper-within = m } in
      let holds = settled-holds q c first all in
      let (k, p, r) = writes book b a limit buffer c holds x _ w room most in
      let (l, u, v) = (our-papers q).writes book b a limit buffer c holds x _ w room most in
      let same-told = p ∙ sym u in let same-paper = r ∙ sym v in
      λ j. record { told = same-told j; buffer = same-paper j }
