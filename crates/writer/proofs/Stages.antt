-- What a call for a paper answers, stage by stage (document 01, "Naming: 13; then answer set 1 ...; then the paper's walk ...; then 14"):
-- the book's refusals come first; a paper is handed over only if it fits; and the buffer changes only where a paper is told.
use mathlib.Core.Path.{◌≡◌, refl, ◌∙◌}
use mathlib.Core.Logic.{◌⊎◌, inl, inr}
use mathlib.Core.List.{List, ◌++◌}
use Prim.Native.Nat.{ℕ, ◌≤◌, ◌<◌}
use native.Mathlib.Nat.{zero-add}
use lib.ListN.{length, drop}
use Rattle.meaning.specs.Books.{Rule, Book}
use Rattle.meaning.specs.declared.kind.Claim.{Claim}
use Rattle.meaning.specs.declared.kind.Claim.TheVariants.{About, NoReading}
use Rattle.meaning.specs.Claim.{claim}
use Rattle.meaning.specs.Told.{Told, refused_at, refused, Answered}
use Rattle.meaning.proofs.Choice.{lt_yes, lt_no, lt-either}
use Rattle.meaning.specs.Paper.{paper_bytes}
use Rattle.book.specs.Format.{BookRead, good, bad, read_of}
use Rattle.meaning.specs.Buffers.{write_at}
use Rattle.walk.specs.Run.{State}
use Rattle.walk.specs.declared.tally.Halt.{Halt}
use Rattle.walk.specs.declared.tally.Halt.TheVariants.{Going, Full, Limit}
use Rattle.writer.specs.Scan.{Course, writing, limited, refuted}
use Rattle.writer.specs.Write.{Handed, paper, hand_over, after_paper_walk, after_first_walk}
use Rattle.writer.specs.Write.{witnessed, unwitnessed, write_in, write_read, write_of}

-- an answer that leaves the buffer
abbrev pub only : List ℕ → Told Handed → Answered Handed
only buffer t = record { told = t; buffer = buffer }

-- ---- the paper is handed over

module _ (tries : ℕ) (whole buffer : List ℕ) where
  pub hand-no-room : length buffer < length whole → hand_over tries whole buffer ≡ only buffer (refused 14)
  unfolding hand_over
  hand-no-room h = lt_yes _ _ _ _ h

  pub hand-long : paper_bytes < length whole → hand_over tries whole buffer ≡ only buffer (refused 14)
  unfolding hand_over
  hand-long h = lt-either (λ a. a ≡ only buffer (refused 14)) _ _ _ _ (λ g. refl) (λ g. lt_yes _ _ _ _ h)

  pub hand-over : length whole ≤ length buffer → length whole ≤ paper_bytes → hand_over tries whole buffer
      ≡ record { told = paper tries (length whole); buffer = whole ++ drop (length whole) buffer }
  unfolding hand_over write_at
  hand-over h g = lt_no _ _ _ _ h ∙ lt_no _ _ _ _ g ∙ rw zero-add

-- ---- where the buffer stays

-- the answer tells a paper, or the buffer is as before
abbrev Keeping : List ℕ → Answered Handed → Type 0
Keeping buffer a = ((tries : ℕ) × (n : ℕ) × (a.told ≡ paper tries n)) ⊎ (a.buffer ≡ buffer)

module _ (limit : ℕ) (buffer : List ℕ) where
  hand-keeping : (tries : ℕ) (whole : List ℕ) → Keeping buffer (hand_over tries whole buffer)
  unfolding hand_over
  hand-keeping tries whole =
      lt-either (Keeping buffer) _ _ _ _ (λ h. inr refl)
      (λ h. lt-either (Keeping buffer) _ _ _ _ (λ g. inr refl) (λ g. inl (tries, _, refl)))

  paper-keeping : (k : Claim) (h : Course) (tries : ℕ) (whole : List ℕ) → Keeping buffer (after_paper_walk h k limit tries whole buffer)
  unfolding after_paper_walk
  paper-keeping k writing tries whole = hand-keeping tries whole
  paper-keeping k limited tries whole = inr refl
  paper-keeping k refuted tries whole = inr refl

  first-keeping : (b : Book) (k : Claim) (h : Halt) (s : State) → Keeping buffer (after_first_walk h b k limit s buffer)
  unfolding after_first_walk
  first-keeping b k Going s = inr refl
  first-keeping b k Full s = paper-keeping k _ _ _
  first-keeping b k Limit s = inr refl

  write-in-keeping : (b : Book) (k : Claim) → Keeping buffer (write_in b k limit buffer)
  unfolding write_in witnessed unwitnessed
  write-in-keeping b (About q a) = lt-either (Keeping buffer) _ _ _ _ (λ h. first-keeping b (claim q a) _ _) (λ h. inr refl)
  write-in-keeping b NoReading = paper-keeping NoReading _ _ _

-- ---- the book's refusals

module _ (book : List ℕ) (k : Claim) (limit : ℕ) (buffer : List ℕ) where
  pub write-bad-book : (i at : ℕ) → read_of book ≡ bad i at → write_of book k limit buffer ≡ only buffer (refused_at i at)
  unfolding write_of write_read
  write-bad-book i at e = rw e

  module _ (n r index : ℕ) (l : List Rule) (e : read_of book ≡ good n r index l) where
    pub write-good-book : write_of book k limit buffer ≡ write_in (record { atoms = n; rules = l }) k limit buffer
    unfolding write_of write_read
    write-good-book = rw e

  pub write-keeps-buffer : ((tries : ℕ) × (n : ℕ) × ((write_of book k limit buffer).told ≡ paper tries n))
      ⊎ ((write_of book k limit buffer).buffer ≡ buffer)
  unfolding write_of write_read
  write-keeps-buffer = go (read_of book)
    where
      go : (r : BookRead) → Keeping buffer (write_read r k limit buffer)
      go (good n r index l) = write-in-keeping limit buffer _ k
      go (bad i at) = inr refl
