-- The six ways that a naming or a clearing can go (document 01, "Numbers given back"; blueprint, N7): stopped on the first walk, no reading, stopped on
-- the paper's walk, stuck, a paper that is too long, and the paper handed over. Each is answered as it should be, and one of them it is.
use mathlib.Core.Path.{◌≡◌, ◌∙◌, ap}
use mathlib.Core.Logic.{◌⊎◌, inl, inr, ⊎_elim}
use mathlib.Core.Bool.{true}
use mathlib.Core.List.{List, ◌++◌}
use Prim.Native.Nat.{ℕ, ◌≤◌, ◌<◌}
use native.Mathlib.Omega.{arith}
use lib.ListN.{length, drop}
use Rattle.meaning.specs.Sets.{every}
use Rattle.meaning.specs.Books.{Atoms, Book, count, rule}
use Rattle.meaning.specs.Colours.{start}
use Rattle.meaning.specs.declared.AtomNo.{AtomNo}
use Rattle.meaning.specs.declared.kind.Kind.{Kind}
use Rattle.meaning.specs.declared.kind.Claim.{Claim}
use Rattle.meaning.specs.Claim.{claim}
use Rattle.meaning.specs.Told.{refused, fewer, stopped, Answered}
use Rattle.meaning.specs.Written.{nothing}
use Rattle.meaning.proofs.Tests.{decided, lt-or-le}
use Rattle.meaning.proofs.Rules.{rule-member}
use Rattle.meaning.proofs.Choice.{lt_yes}
use Rattle.meaning.proofs.LeastModel.{Proper, answer-inside}
use Rattle.meaning.specs.Paper.{paper_bytes}
use Rattle.book.specs.Writing.{Fits}
use Rattle.walk.specs.Events.{events}
use Rattle.walk.specs.Readings.{readings}
use Rattle.walk.specs.Tries.{Kth, to-reading, to_end, last_clash}
use Rattle.walk.specs.Tries.{Needs}
use Rattle.walk.specs.Page.{set_in}
use Rattle.walk.specs.declared.tally.Halt.TheVariants.{Full}
use Rattle.walk.proofs.Needs.{kth-or-fewer}
use Rattle.walk.specs.Find.{first_walk}
use Rattle.writer.specs.Branches.{branches}
use Rattle.writer.specs.PaperNeeds.{settled, Stuck, PaperNeeds, to-stuck, whole_paper, paper_for, to_last}
use Rattle.writer.specs.Write.{Handed, paper, paper_walk, hand_over}
use Rattle.writer.specs.Write.{lacking, failing, after_paper_walk, after_first_walk, witnessed, write_in}
use Rattle.writer.proofs.PaperNeeds.{stuck-some, paper-limited, paper-stuck, paper-written}
use Rattle.writer.proofs.Stages.{only, hand-no-room, hand-long, hand-over}
use Rattle.walk.proofs.FirstWalk.{set-in-first, kth-answer, first-limited, first-none, first_found}

-- a book within the bounds of the format whose heads are its atoms, and a claim of one of its atoms
pub record Nameable (b : Book) (atom : AtomNo) : Type 0 where
  pub few-atoms : b.atoms ≤ 255
  pub few-rules : count b ≤ 255
  pub heads-below : Proper b
  pub atom-below : atom.0 < b.atoms

pub fits-nameable : (b : Book) (atom : AtomNo) → Fits b → atom.0 < b.atoms → Nameable b atom
fits-nameable b atom fits h = record {
  few-atoms = fits.atoms;
  few-rules = fits.rules;
  heads-below = λ r g. (fits.each (rule b r) (rule-member b r g)).head;
  atom-below = h;
}

-- the answer where the paper with the witness of x stands in the buffer; its tries are the branches
abbrev pub written : Book → Claim → List ℕ → Atoms → Answered Handed
written b k buffer x = record {
  told = paper (length (branches b k start)) (length (paper_for b k x));
  buffer = paper_for b k x ++ drop (length (paper_for b k x)) buffer;
}

-- answer set 1 is x, and is found within the limit
abbrev pub Found : Book → ℕ → Atoms → Type 0
Found b limit x = (t : ℕ) × Kth b (events b nothing) 1 t x × (t ≤ limit)

-- every branch is settled, and they are within the limit
abbrev pub Settled : Book → Claim → ℕ → Type 0
Settled b k limit = (every settled (branches b k start) ≡ true) × (length (branches b k start) ≤ limit)

-- "paper longer than the buffer or 60,000"
abbrev pub TooLong : Book → Claim → List ℕ → Atoms → Type 0
TooLong b k buffer x = (length buffer < length (paper_for b k x)) ⊎ (paper_bytes < length (paper_for b k x))

module _ (b : Book) (kind : Kind) (atom : AtomNo) (limit : ℕ) (buffer : List ℕ) where
  abbrev k : Claim
  k = claim kind atom

  pub data Outcome : Answered Handed → Type 0 where
    first-stopped : {n : ℕ} → Needs b (events b nothing) 1 n → limit < n → Outcome (only buffer (stopped limit))
    no-reading : length (readings b) < 1 → length (events b nothing) ≤ limit → Outcome (only buffer (fewer (length (events b nothing)) 0 (last_clash (events b nothing))))
    paper-stopped : {x : Atoms} {n : ℕ} → Found b limit x → PaperNeeds b k n → limit < n → Outcome (only buffer (stopped limit))
    got-stuck : {x : Atoms} {n : ℕ} → Found b limit x → Stuck b k n → n ≤ limit → Outcome (only buffer (refused (lacking kind)))
    too_long : {x : Atoms} → Found b limit x → Settled b k limit → TooLong b k buffer x → Outcome (only buffer (refused 14))
    handed-over : {x : Atoms} → Found b limit x → Settled b k limit → length (paper_for b k x) ≤ length buffer
        → length (paper_for b k x) ≤ paper_bytes → Outcome (written b k buffer x)

  module _ (good : Nameable b atom) where
    abbrev answer : Answered Handed
    answer = write_in b k limit buffer

    -- ---- what each way answers

    pub way-first-stopped : {n : ℕ} → Needs b (events b nothing) 1 n → limit < n → write_in b k limit buffer ≡ only buffer (stopped limit)
    unfolding write_in witnessed after_first_walk
    way-first-stopped p h = lt_yes _ _ _ _ good.atom-below ∙ rw (first-limited b limit good.few-atoms p h)

    pub way-no-reading : length (readings b) < 1 → length (events b nothing) ≤ limit
        → write_in b k limit buffer ≡ only buffer (fewer (length (events b nothing)) 0 (last_clash (events b nothing)))
    unfolding write_in witnessed after_first_walk
    way-no-reading p h =
        let (e, t, c) = first-none b limit good.few-atoms p h in lt_yes _ _ _ _ good.atom-below ∙ rw (e, t, c)

    module _ {x : Atoms} (found : Found b limit x) where
      ended : ((first_walk b limit).tally.halt ≡ Full) × (set_in (first_walk b limit).out ≡ x)
      ended =
          let (t, first, h) = found in let (e, o) = first_found b limit good.few-atoms first h in
          let inside = answer-inside b good.few-rules x good.heads-below (kth-answer b good.few-rules first) in
          (e, ap set_in o ∙ set-in-first b x inside)

      after_first : answer ≡ after_paper_walk (paper_walk b k limit).course k limit (paper_walk b k limit).tries
          (whole_paper b k (paper_walk b k limit).bytes (set_in (first_walk b limit).out)) buffer
      unfolding write_in witnessed after_first_walk
      after_first = lt_yes _ _ _ _ good.atom-below ∙ rw ended.0

      pub way-paper-stopped : {n : ℕ} → PaperNeeds b k n → limit < n → write_in b k limit buffer ≡ only buffer (stopped limit)
      unfolding after_paper_walk
      way-paper-stopped p g = after_first ∙ rw (paper-limited b k limit p g)

      pub way-stuck : {n : ℕ} → Stuck b k n → n ≤ limit → write_in b k limit buffer ≡ only buffer (refused (lacking kind))
      unfolding after_paper_walk failing
      way-stuck p g = after_first ∙ rw (paper-stuck b k limit p g)

      module _ (all : Settled b k limit) where
        handed : answer ≡ hand_over (length (branches b k start)) (paper_for b k x) buffer
        unfolding after_paper_walk paper_for
        handed = after_first ∙ rw (paper-written b k limit all.0 all.1, ended.1)

        pub way-too-long : TooLong b k buffer x → write_in b k limit buffer ≡ only buffer (refused 14)
        way-too-long l = handed ∙ ⊎_elim (hand-no-room _ (paper_for b k x) buffer) (hand-long _ (paper_for b k x) buffer) l

        pub way-paper : length (paper_for b k x) ≤ length buffer → length (paper_for b k x) ≤ paper_bytes
            → write_in b k limit buffer ≡ written b k buffer x
        way-paper l m = handed ∙ hand-over _ (paper_for b k x) buffer l m

    -- ---- one of them it is

    module _ {x : Atoms} (found : Found b limit x) where
      stuck-outcome : {n : ℕ} → Stuck b k n → Outcome answer
      stuck-outcome {n} u =
          ⊎_elim (λ h. rw (way-paper-stopped found (to-stuck u) h) (paper-stopped found (to-stuck u) h))
          (λ h. rw (way-stuck found u h) (got-stuck found u h)) (lt-or-le limit n)

      settled-outcome : Settled b k limit → Outcome answer
      settled-outcome all = ⊎_elim (λ h. long (inl h)) (λ h. ⊎_elim (λ g. long (inr g))
          (λ g. rw (way-paper found all h g) (handed-over found all h g))
          (lt-or-le paper_bytes (length (paper_for b k x)))) (lt-or-le (length buffer) (length (paper_for b k x)))
        where
          long : TooLong b k buffer x → Outcome answer
          long l = rw (way-too-long found all l) (too_long found all l)

      found-outcome : Outcome answer
      found-outcome = ⊎_elim
          (λ s. ⊎_elim (λ h. rw (way-paper-stopped found (to_last s) h) (paper-stopped found (to_last s) h))
          (λ h. settled-outcome (s, h)) (lt-or-le limit (length (branches b k start))))
          (λ n. let (m, u) = stuck-some b k n in stuck-outcome u) (decided (every settled (branches b k start)))

    pub write-outcome : Outcome (write_in b k limit buffer)
    write-outcome = ⊎_elim
        (λ (t, x, first). ⊎_elim (λ h. stopped-first (to-reading first) h) (λ h. found-outcome (t, first, h)) (lt-or-le limit t))
        (λ none. ⊎_elim (λ h. stopped-first (to_end none) h) (λ h. rw (way-no-reading none h) (no-reading none h))
        (lt-or-le limit (length (events b nothing))))
        (kth-or-fewer b (events b nothing) 1 (omega arith))
      where
        stopped-first : {n : ℕ} → Needs b (events b nothing) 1 n → limit < n → Outcome answer
        stopped-first p h = rw (way-first-stopped p h) (first-stopped p h)
