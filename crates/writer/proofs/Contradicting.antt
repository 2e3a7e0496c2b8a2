-- What a call for a paper that the book has no reading answers (docs/DECISIONS.md, "A paper that a book has no reading"): its walk is the
-- fixed walk (law T), so with n the tries that a call for answer set 1 needs, 9 exactly if the limit is below n; else 38 exactly if there
-- is an answer set; else the paper, with n tries, which keeps the printed rules, and 14 exactly if it passes the room or 60,000 bytes.
use mathlib.Core.Path.{◌≡◌, refl, ap, subst}
use mathlib.Core.Logic.{◌⊎◌, inl, inr, ⊎_elim, ◌↔◌}
use mathlib.Core.Bool.{true}
use mathlib.Core.List.{List, ◌++◌}
use Prim.Native.Nat.{ℕ, ◌≤◌, ◌<◌}
use native.Mathlib.Omega.{arith}
use lib.ListN.{length, drop}
use Rattle.meaning.specs.Sets.{every}
use Rattle.meaning.specs.Books.{Atoms, Book, count}
use Rattle.meaning.specs.AnswerSet.{AnswerSet}
use Rattle.meaning.specs.Colours.{start}
use Rattle.meaning.specs.declared.kind.Claim.TheVariants.{NoReading}
use Rattle.meaning.specs.Claim.{Contrary}
use Rattle.meaning.specs.Paper.{Keeps, paper_bytes}
use Rattle.meaning.specs.Told.{Told, success, refused_with, refused_at, refused, stopped, Answered}
use Rattle.meaning.specs.Written.{nothing}
use Rattle.meaning.proofs.Tests.{decided, lt-or-le}
use Rattle.meaning.proofs.Contrary.{no-reading-silent}
use Rattle.walk.specs.Events.{events}
use Rattle.walk.specs.Tries.{Kth, Needs}
use Rattle.walk.proofs.FirstWalk.{kth-answer}
use Rattle.writer.specs.Branches.{branches}
use Rattle.writer.specs.PaperNeeds.{settled, Stuck, PaperNeeds, to-stuck, to_last, bare_for}
use Rattle.writer.specs.Write.{Handed, paper, failing, hand_over, after_paper_walk, unwitnessed, write_in}
use Rattle.writer.proofs.PaperNeeds.{stuck-some, paper-needs-one, paper-limited, paper-stuck, paper-written}
use Rattle.writer.proofs.Papers.{bare-keeps}
use Rattle.writer.proofs.Stages.{only, hand-no-room, hand-long, hand-over}
use Rattle.writer.proofs.SameWalk.{same-walk, same-stuck, settled-contrary}

-- "paper longer than the buffer or 60,000"
abbrev pub BareTooLong : Book → List ℕ → Type 0
BareTooLong b buffer = (length buffer < length (bare_for b NoReading)) ⊎ (paper_bytes < length (bare_for b NoReading))

module _ (b : Book) (fits : count b ≤ 255) where
  -- ---- law T for this claim

  pub no-reading-walk : (n : ℕ) → PaperNeeds b NoReading n ↔ Needs b (events b nothing) 1 n
  no-reading-walk = same-walk b NoReading fits (no-reading-silent b)

  pub no-reading-stuck : (n : ℕ) → Stuck b NoReading n ↔ ((x : Atoms) × Kth b (events b nothing) 1 n x)
  no-reading-stuck = same-stuck b NoReading fits (no-reading-silent b)

  pub no-reading-settled : (every settled (branches b NoReading start) ≡ true) ↔ Contrary b
  no-reading-settled = settled-contrary b NoReading fits (no-reading-silent b)

  pub contrary-keeps : Contrary b → Keeps b NoReading (bare_for b NoReading)
  contrary-keeps f = bare-keeps b fits (no-reading-settled.1 f)

  module _ (limit : ℕ) (buffer : List ℕ) {n : ℕ} (tries : Needs b (events b nothing) 1 n) where
    needs : PaperNeeds b NoReading n
    needs = (no-reading-walk n).1 tries

    -- ---- the three ways that the paper's walk goes

    way-limited : limit < n → write_in b NoReading limit buffer ≡ only buffer (stopped limit)
    unfolding write_in unwitnessed after_paper_walk
    way-limited h = rw (paper-limited b NoReading limit needs h)

    module _ (enough : n ≤ limit) where
      way-stuck : Stuck b NoReading n → write_in b NoReading limit buffer ≡ only buffer (refused 38)
      unfolding write_in unwitnessed after_paper_walk failing
      way-stuck s = rw (paper-stuck b NoReading limit s enough)

      way-settled : every settled (branches b NoReading start) ≡ true
          → write_in b NoReading limit buffer ≡ hand_over n (bare_for b NoReading) buffer
      unfolding write_in unwitnessed after_paper_walk bare_for
      way-settled s =
          let e = paper-needs-one b NoReading (to_last s) needs in
          rw (paper-written b NoReading limit s (omega arith)) (ap (λ (m : ℕ). hand_over m (bare_for b NoReading) buffer) e)

    -- the paper stands in the buffer
    abbrev written : Answered Handed
    written = record {
      told = paper n (length (bare_for b NoReading));
      buffer = bare_for b NoReading ++ drop (length (bare_for b NoReading)) buffer;
    }

    data Outcome : Answered Handed → Type 0 where
      walk-stopped : limit < n → Outcome (only buffer (stopped limit))
      has-reading : n ≤ limit → (x : Atoms) → AnswerSet b x → Outcome (only buffer (refused 38))
      too_long : n ≤ limit → Contrary b → BareTooLong b buffer → Outcome (only buffer (refused 14))
      handed-over : n ≤ limit → Contrary b → length (bare_for b NoReading) ≤ length buffer → length (bare_for b NoReading) ≤ paper_bytes
          → Outcome written

    outcome : Outcome (write_in b NoReading limit buffer)
    outcome = ⊎_elim (λ h. rw (way-limited h) (walk-stopped h))
        (λ h. ⊎_elim (λ s. by_length h s) (λ u. let (m, s) = stuck-some b NoReading u in
        got-stuck h (rw (paper-needs-one b NoReading (to-stuck s) needs) at s)) (decided (every settled (branches b NoReading start))))
        (lt-or-le limit n)
      where
        got-stuck : n ≤ limit → Stuck b NoReading n → Outcome (write_in b NoReading limit buffer)
        got-stuck h s =
            let (x, c) = (no-reading-stuck n).0 s in rw (way-stuck h s) (has-reading h x (kth-answer b fits c))

        by_length : n ≤ limit → every settled (branches b NoReading start) ≡ true → Outcome (write_in b NoReading limit buffer)
        by_length h s =
            let f = no-reading-settled.0 s in
            let w = bare_for b NoReading in
            rw (way-settled h s) (⊎_elim (λ l. rw (hand-no-room n w buffer l) (too_long h f (inl l)))
            (λ l. ⊎_elim (λ m. rw (hand-long n w buffer m) (too_long h f (inr m)))
            (λ m. rw (hand-over n w buffer l m) (handed-over h f l m)) (lt-or-le paper_bytes (length w)))
            (lt-or-le (length buffer) (length w)))

    -- ---- each answer, exactly under its condition

    -- what is told, and the buffer afterwards, say which way the call went
    Says : Told Handed → List ℕ → Type 0
    Says (success s) after = (n ≤ limit) × Contrary b × (s.tries ≡ n) × (s.size ≡ length (bare_for b NoReading)) × (s.size ≤ length buffer)
        × (s.size ≤ paper_bytes) × (after ≡ bare_for b NoReading ++ drop s.size buffer)
    Says (refused_with i l) after = limit < n
    Says (refused_at i at) after = ⊥
    Says (refused i) after = (((x : Atoms) × AnswerSet b x) × (i ≡ 38)) ⊎ (BareTooLong b buffer × (i ≡ 14))

    outcome-says : {a : Answered Handed} → Outcome a → Says a.told a.buffer
    unfolding Says
    outcome-says (walk-stopped h) = h
    outcome-says (has-reading h x answer) = inl ((x, answer), refl)
    outcome-says (too_long h f l) = inr (l, refl)
    outcome-says (handed-over h f l m) = (h, f, refl, refl, l, m, refl)

    says : {t : Told Handed} → (write_in b NoReading limit buffer).told ≡ t → Says t (write_in b NoReading limit buffer).buffer
    says e = subst (λ (t : Told Handed). Says t (write_in b NoReading limit buffer).buffer) e (outcome-says outcome)

    pub contradict-stopped : ((write_in b NoReading limit buffer).told ≡ stopped limit) ↔ (limit < n)
    unfolding Says
    contradict-stopped = (says, λ h. ap (λ (a : Answered Handed). a.told) (way-limited h))

    module _ (enough : n ≤ limit) where
      pub contradict-has : ((write_in b NoReading limit buffer).told ≡ refused 38) ↔ ((x : Atoms) × AnswerSet b x)
      unfolding Says
      contradict-has = (λ e. ⊎_elim (λ (some, q). some) (λ (l, q). absurd (omega (arith, q))) (says e), λ (x, answer). by x answer outcome)
        where
          by : (x : Atoms) → AnswerSet b x → {a : Answered Handed} → Outcome a → a.told ≡ refused 38
          by x answer (walk-stopped h) = absurd (omega arith)
          by x answer (has-reading h y other) = refl
          by x answer (too_long h f l) = absurd (f x answer)
          by x answer (handed-over h f l m) = absurd (f x answer)

      module _ (contrary : Contrary b) where
        pub contradict-too-long : ((write_in b NoReading limit buffer).told ≡ refused 14) ↔ BareTooLong b buffer
        unfolding Says
        contradict-too-long = (λ e. ⊎_elim (λ (some, q). absurd (omega (arith, q))) (λ (l, q). l) (says e), λ l. by l outcome)
          where
            by : BareTooLong b buffer → {a : Answered Handed} → Outcome a → a.told ≡ refused 14
            by l (walk-stopped h) = absurd (omega arith)
            by l (has-reading h x answer) = absurd (contrary x answer)
            by l (too_long h f m) = refl
            by l (handed-over h f g m) = absurd (⊎_elim (λ o. omega arith) (λ o. omega arith) l)

        -- else the paper: the fixed walk's tries and its length are told, it stands from byte 0, and the later bytes keep
        pub contradict-paper : length (bare_for b NoReading) ≤ length buffer → length (bare_for b NoReading) ≤ paper_bytes
            → write_in b NoReading limit buffer ≡ record {
              told = paper n (length (bare_for b NoReading));
              buffer = bare_for b NoReading ++ drop (length (bare_for b NoReading)) buffer;
            }
        contradict-paper room most = by outcome
          where
            by : {a : Answered Handed} → Outcome a → a ≡ written
            by (walk-stopped h) = absurd (omega arith)
            by (has-reading h x answer) = absurd (contrary x answer)
            by (too_long h f l) = absurd (⊎_elim (λ o. omega arith) (λ o. omega arith) l)
            by (handed-over h f l m) = refl

    -- a paper is told only where there is no answer set, and it keeps the printed rules
    pub contradict-written : {t m : ℕ} → (write_in b NoReading limit buffer).told ≡ paper t m
        → (t ≡ n) × (m ≡ length (bare_for b NoReading)) × (m ≤ length buffer) × (m ≤ paper_bytes)
        × ((write_in b NoReading limit buffer).buffer ≡ bare_for b NoReading ++ drop m buffer) × Keeps b NoReading (bare_for b NoReading)
    unfolding Says
    contradict-written e = let (h, f, p, q, room, most, stands) = says e in (p, q, room, most, stands, contrary-keeps f)
