-- What a naming or a clearing answers (demand 3 and its twin; blueprint, N2, N3, N5 and N7), for a good book and an atom of it: in document
-- 01's order 9, 11, 9, 12 or 18, and 14, each exactly under its condition, else the paper, which keeps the printed rules; where the claim
-- holds throughout it is a paper, 9 or 14, never 11, 12 or 18; where it does not, and there is an answer set, 12 or 18, or 9. All of it is
-- read off the ways that a call can go (proofs/Ways).
use mathlib.Core.Path.{◌≡◌, refl, sym, ap, subst}
use mathlib.Core.Logic.{◌⊎◌, inl, inr, ⊎_elim, ◌↔◌}
use mathlib.Core.Bool.{true}
use mathlib.Core.List.{List, [], ◌∷◌, ◌++◌}
use Prim.Native.Nat.{ℕ, ◌≤◌, ◌<◌}
use native.Mathlib.Omega.{arith}
use lib.ListN.{length, drop}
use Rattle.meaning.specs.Sets.{◌∉◌, every}
use Rattle.meaning.specs.Books.{Atoms, Book}
use Rattle.meaning.specs.AnswerSet.{AnswerSet, Throughout}
use Rattle.meaning.specs.Colours.{start}
use Rattle.meaning.specs.declared.AtomNo.{AtomNo}
use Rattle.meaning.specs.declared.kind.Kind.{Kind}
use Rattle.meaning.specs.declared.kind.Kind.TheVariants.{Naming, Clearing}
use Rattle.meaning.specs.declared.kind.Claim.{Claim}
use Rattle.meaning.specs.Claim.{claim, meant}
use Rattle.meaning.specs.Paper.{Keeps, paper_bytes}
use Rattle.meaning.specs.Told.{Told, success, refused_with, refused_at, refused, fewer, stopped, Answered}
use Rattle.meaning.proofs.Tests.{true-and-false}
use Rattle.meaning.specs.Written.{nothing}
use Rattle.walk.specs.Events.{events}
use Rattle.walk.specs.Readings.{readings}
use Rattle.walk.specs.Tries.{Kth, to-reading, to_end, last_clash}
use Rattle.walk.specs.Tries.{Needs}
use Rattle.walk.proofs.Needs.{kth-one}
use Rattle.walk.proofs.Needs.{needs-one}
use Rattle.writer.specs.Branches.{branches}
use Rattle.writer.specs.PaperNeeds.{settled, Stuck, PaperNeeds, to-stuck, paper_for, to_last}
use Rattle.writer.specs.Write.{Handed, paper, lacking, write_in}
use Rattle.writer.proofs.PaperNeeds.{stuck-unsettled, paper-needs-one}
use Rattle.writer.proofs.Papers.{settled-each, unsettled-one, certain-settled, paper-keeps}
use Rattle.walk.proofs.FirstWalk.{kth-answer, fewer-none}
use Rattle.writer.proofs.Ways.{Nameable, written, Found, Settled, TooLong, Outcome, first-stopped, no-reading, paper-stopped}
use Rattle.writer.proofs.Ways.{got-stuck, too_long, handed-over, way-first-stopped, way-no-reading, way-paper-stopped, way-stuck}
use Rattle.writer.proofs.Ways.{way-too-long, way-paper, write-outcome}

pub lacking-is : (q : Kind) → (lacking q ≡ 12) ⊎ (lacking q ≡ 18)
unfolding lacking
lacking-is Naming = inl refl
lacking-is Clearing = inr refl

lacking-not-14 : (q : Kind) → lacking q ≡ 14 → ⊥
lacking-not-14 q e = ⊎_elim (λ p. omega (arith, p, e)) (λ p. omega (arith, p, e)) (lacking-is q)

module _ (b : Book) (kind : Kind) (atom : AtomNo) (limit : ℕ) (buffer : List ℕ) where
  abbrev k : Claim
  k = claim kind atom

  -- what is told, and the buffer afterwards, say which way the call went
  Says : Told Handed → List ℕ → Type 0
  Says (success s) after = (x : Atoms) × Found b limit x × Settled b k limit × (s.tries ≡ length (branches b k start))
      × (s.size ≡ length (paper_for b k x)) × (s.size ≤ length buffer) × (s.size ≤ paper_bytes)
      × (after ≡ paper_for b k x ++ drop s.size buffer)
  Says (refused_with i []) after = ⊥
  Says (refused_with i (l ∷ [])) after =
      ((n : ℕ) × Needs b (events b nothing) 1 n × (limit < n)) ⊎ ((n : ℕ) × PaperNeeds b k n × (limit < n) × (x : Atoms) × Found b limit x)
  Says (refused_with i (t ∷ (n ∷ l))) after = length (readings b) < 1
  Says (refused_at i at) after = ⊥
  Says (refused i) after = ((n : ℕ) × Stuck b k n × (i ≡ lacking kind)) ⊎ ((x : Atoms) × Found b limit x × TooLong b k buffer x × (i ≡ 14))

  outcome-says : {a : Answered Handed} → Outcome b kind atom limit buffer a → Says a.told a.buffer
  unfolding Says
  outcome-says (first-stopped {n} p h) = inl (n, p, h)
  outcome-says (no-reading h l) = h
  outcome-says (paper-stopped {x} {n} f p h) = inr (n, p, h, x, f)
  outcome-says (got-stuck {n = n} f u h) = inl (n, u, refl)
  outcome-says (too_long {x} f s l) = inr (x, f, l, refl)
  outcome-says (handed-over {x} f s h l) = (x, f, s, refl, refl, h, l, refl)

  module _ (good : Nameable b atom) where
    says : {t : Told Handed} → (write_in b k limit buffer).told ≡ t → Says t (write_in b k limit buffer).buffer
    says e = subst (λ (t : Told Handed). Says t (write_in b k limit buffer).buffer) e (outcome-says (write-outcome b kind atom limit buffer good))

    told-by : {a : Answered Handed} → write_in b k limit buffer ≡ a → (write_in b k limit buffer).told ≡ a.told
    told-by e = ap (λ (a : Answered Handed). a.told) e

    -- ---- in document 01's order

    -- "9 exactly if the first walk needs more than L tries to come to answer set 1 or to its end"; for the converse see write-stopped
    pub write-first-stopped : {n : ℕ} → Needs b (events b nothing) 1 n → limit < n
        → write_in b k limit buffer ≡ record { told = stopped limit; buffer = buffer }
    write-first-stopped p h = way-first-stopped b kind atom limit buffer good p h

    module _ {n : ℕ} (tries : Needs b (events b nothing) 1 n) (within : n ≤ limit) where
      -- "otherwise 11 exactly if there is no answer set", with all tries of that walk and the rule that clashed last in it
      pub write-none : ((write_in b k limit buffer).told ≡ fewer n 0 (last_clash (events b nothing))) ↔ ((x : Atoms) → AnswerSet b x → ⊥)
      unfolding Says
      write-none = (λ e. fewer-none b good.few-rules (says e), back tries within)
        where
          back : {n : ℕ} → Needs b (events b nothing) 1 n → n ≤ limit → ((x : Atoms) → AnswerSet b x → ⊥)
              → (write_in b k limit buffer).told ≡ fewer n 0 (last_clash (events b nothing))
          back (to-reading {x = x} first) h none = absurd (none x (kth-answer b good.few-rules first))
          back (to_end f) h none = told-by (way-no-reading b kind atom limit buffer good f h)

      module _ (some : (x : Atoms) × AnswerSet b x) {m : ℕ} (needs : PaperNeeds b k m) where
        found : (x : Atoms) × Found b limit x
        found = by tries within
          where
            by : {n : ℕ} → Needs b (events b nothing) 1 n → n ≤ limit → (x : Atoms) × Found b limit x
            by {n} (to-reading {x = x} first) h = (x, (n, first, h))
            by (to_end f) h = absurd (fewer-none b good.few-rules f some.0 some.1)

        -- "otherwise 9 exactly if the paper's walk needs more than L branches to get stuck or to its end"
        pub write-paper-stopped : ((write_in b k limit buffer).told ≡ stopped limit) ↔ (limit < m)
        unfolding Says
        write-paper-stopped = (
          λ e. ⊎_elim (λ (i, p, h). absurd (omega (arith, needs-one b p tries)))
              (λ (i, p, h, x, f). omega (arith, paper-needs-one b k p needs)) (says e),
          λ h. told-by (way-paper-stopped b kind atom limit buffer good found.1 needs h),
        )

        module _ (enough : m ≤ limit) where
          -- "otherwise 12 exactly if it gets stuck"; 18 for a clearing
          pub write-lacking : ((write_in b k limit buffer).told ≡ refused (lacking kind)) ↔ Stuck b k m
          unfolding Says
          write-lacking = (
            λ e. ⊎_elim (λ (i, p, q). rw (paper-needs-one b k (to-stuck p) needs) at p) (λ (x, f, l, q). absurd (lacking-not-14 kind q)) (says e),
            λ u. told-by (way-stuck b kind atom limit buffer good found.1 u enough),
          )

          module _ (all : every settled (branches b k start) ≡ true) {t : ℕ} {x : Atoms} (first : Kth b (events b nothing) 1 t x) where
            first_found : Found b limit x
            first_found = (t, first, omega (arith, needs-one b (to-reading first) tries))

            within-limit : Settled b k limit
            within-limit = (all, omega (arith, paper-needs-one b k (to_last all) needs))

            -- "otherwise 14 exactly if the paper is longer than the room or 60,000"
            pub write-too-long : ((write_in b k limit buffer).told ≡ refused 14)
                ↔ ((length buffer < length (paper_for b k x)) ⊎ (paper_bytes < length (paper_for b k x)))
            unfolding Says
            write-too-long = (
              λ e. ⊎_elim (λ (i, p, q). absurd (lacking-not-14 kind (sym q)))
                  (λ (y, (u, f, h), l, q). rw (kth-one b f first).1 at l) (says e),
              λ l. told-by (way-too-long b kind atom limit buffer good first_found within-limit l),
            )

            -- "else the paper": its walk's branches and its length are told, it stands from byte 0, and the later bytes keep
            pub write-paper : length (paper_for b k x) ≤ length buffer → length (paper_for b k x) ≤ paper_bytes
                → write_in b k limit buffer ≡ record {
                  told = paper (length (branches b k start)) (length (paper_for b k x));
                  buffer = paper_for b k x ++ drop (length (paper_for b k x)) buffer;
                }
            write-paper l h = way-paper b kind atom limit buffer good first_found within-limit l h

    -- both 9s together
    pub write-stopped : {n m : ℕ} → Needs b (events b nothing) 1 n → PaperNeeds b k m → ((write_in b k limit buffer).told ≡ stopped limit)
        ↔ ((limit < n) ⊎ ((n ≤ limit) × ((x : Atoms) × AnswerSet b x) × (limit < m)))
    unfolding Says
    write-stopped tries needs = (
      λ e. ⊎_elim (λ (i, p, h). inl (omega (arith, needs-one b p tries))) (λ (i, p, h, x, (t, first, g)).
          let answer = kth-answer b good.few-rules first in
          inr (omega (arith, needs-one b (to-reading first) tries), (x, answer), omega (arith, paper-needs-one b k p needs))) (says e),
      λ s. ⊎_elim (λ h. told-by (write-first-stopped tries h)) (λ (h, some, g). (write-paper-stopped tries h some needs).1 g) s,
    )

    -- ---- what an answer means

    -- every paper that is told keeps the printed rules, is at most 60,000 bytes and stands in the buffer
    pub write-written : {t n : ℕ} → (write_in b k limit buffer).told ≡ paper t n
        → (x : Atoms) × AnswerSet b x × (t ≡ length (branches b k start)) × (n ≡ length (paper_for b k x)) × (n ≤ length buffer)
        × (n ≤ paper_bytes) × ((write_in b k limit buffer).buffer ≡ paper_for b k x ++ drop n buffer) × Keeps b k (paper_for b k x)
    unfolding Says
    write-written e =
        let (x, (t, first, h), s, p, q, room, most, stands) = says e in
        let answer = kth-answer b good.few-rules first in
        (x, answer, p, q, room, most, stands, paper-keeps b good.few-rules kind atom s.0 good.atom-below x answer)

    -- 12 or 18 is told only if the claim fails of an answer set
    pub write-lacks : (write_in b k limit buffer).told ≡ refused (lacking kind) → (x : Atoms) × AnswerSet b x × (x ∉ meant k)
    unfolding Says
    write-lacks e = ⊎_elim
        (λ (n, u, q). unsettled-one b k good.few-rules (stuck-unsettled b k u)) (λ (x, f, l, q). absurd (lacking-not-14 kind q)) (says e)

    -- where the claim holds throughout, the answer is never 11 and never 12 or 18
    pub write-certain : Throughout b (meant k)
        → ((t n r : ℕ) → (write_in b k limit buffer).told ≡ fewer t n r → ⊥)
        × ((write_in b k limit buffer).told ≡ refused (lacking kind) → ⊥)
    unfolding Says
    write-certain c = (
      λ t n r e. fewer-none b good.few-rules (says e) c.one.0 c.one.1,
      λ e. let (x, answer, n) = write-lacks e in true-and-false (c.each x answer) n,
    )

    -- so it is a paper, 9 or 14
    pub write-certain-told : Throughout b (meant k) → ((t : ℕ) × (n : ℕ) × ((write_in b k limit buffer).told ≡ paper t n))
        ⊎ (((write_in b k limit buffer).told ≡ stopped limit) ⊎ ((write_in b k limit buffer).told ≡ refused 14))
    write-certain-told c = by (write-outcome b kind atom limit buffer good)
      where
        by : {a : Answered Handed} → Outcome b kind atom limit buffer a
            → ((t : ℕ) × (n : ℕ) × (a.told ≡ paper t n)) ⊎ ((a.told ≡ stopped limit) ⊎ (a.told ≡ refused 14))
        by (first-stopped p h) = inr (inl refl)
        by (no-reading h l) = absurd (fewer-none b good.few-rules h c.one.0 c.one.1)
        by (paper-stopped f p h) = inr (inl refl)
        by (got-stuck f u h) = true-and-false (certain-settled b k good.few-rules c) (stuck-unsettled b k u)
        by (too_long f s l) = inr (inr refl)
        by (handed-over f s h l) = inl (_, _, refl)

    -- "When the atom is in all answer sets, and there is at least one, the engine writes such a paper unless document 01's walks pass the
    -- tries limit or its paper passes the room given or 60,000 bytes"
    pub write-writes : Throughout b (meant k) → {t : ℕ} {x : Atoms} → Kth b (events b nothing) 1 t x → t ≤ limit → length (branches b k start) ≤ limit
        → length (paper_for b k x) ≤ length buffer → length (paper_for b k x) ≤ paper_bytes
        → (write_in b k limit buffer ≡ written b k buffer x) × Keeps b k (paper_for b k x)
    write-writes c {t} {x} first h l room most =
        let s = certain-settled b k good.few-rules c in (
          way-paper b kind atom limit buffer good (t, first, h) (s, l) room most,
          paper-keeps b good.few-rules kind atom s good.atom-below x (kth-answer b good.few-rules first),
        )

    -- where there is an answer set and the claim does not hold throughout, the answer is 12 or 18, or 9
    pub write-uncertain : (x : Atoms) × AnswerSet b x → (Throughout b (meant k) → ⊥)
        → ((write_in b k limit buffer).told ≡ refused (lacking kind)) ⊎ ((write_in b k limit buffer).told ≡ stopped limit)
    write-uncertain some not = by (write-outcome b kind atom limit buffer good)
      where
        open-branch : {A : Type 0} → Settled b k limit → A
        open-branch s = absurd (not (record { one = some; each = settled-each b k good.few-rules s.0 }))

        by : {a : Answered Handed} → Outcome b kind atom limit buffer a → (a.told ≡ refused (lacking kind)) ⊎ (a.told ≡ stopped limit)
        by (first-stopped p h) = inr refl
        by (no-reading h l) = absurd (fewer-none b good.few-rules h some.0 some.1)
        by (paper-stopped f p h) = inr refl
        by (got-stuck f u h) = inl refl
        by (too_long f s l) = open-branch s
        by (handed-over f s h l) = open-branch s
