-- The draft handed over (specs/Write, hand_over; document 01, "14: engine's paper longer than the buffer or 60,000"): a copy byte by byte,
-- and what the draft's length says of the paper's. And the paper put together: the steps that stand in the draft, the witness, the trailer.
use mathlib.Core.Path.{◌≡◌, refl, sym}
use mathlib.Core.List.{List, [], ◌++◌, append_assoc}
use Prim.Native.Nat.{ℕ, ◌≤◌, ◌<◌}
use native.Mathlib.Omega.{arith}
use lib.ListN.{length, take, drop, length-append}
use Rattle.meaning.specs.declared.RuleNo.{RuleNo}
use Rattle.meaning.specs.Books.{Atoms, Book}
use Rattle.meaning.specs.declared.kind.Claim.{Claim}
use Rattle.meaning.specs.Paper.{numbers, trailer, paper_with, paper_bytes}
use Rattle.meaning.specs.Engine.{witness_of}
use Rattle.meaning.specs.Told.{refused}
use Rattle.meaning.specs.Buffers.{write_at}
use Rattle.writer.specs.PaperNeeds.{whole_paper}
use Rattle.writer.specs.Write.{paper, hand_over}
use Rattle.writer.specs.Draft.{Stands, whole, passed, Writes}
use Rattle.writer.proofs.Drafts.{writes-nil}
use Rattle.writer.proofs.Stages.{only, hand-no-room, hand-long, hand-over}

-- ---- a copy

pub stands-long : {l : List ℕ} {n : ℕ} {out : List ℕ} → Stands l n out → length out ≡ paper_bytes
stands-long (whole g e h f) = g
stands-long (passed g e h) = g

pub stands-counted : {l : List ℕ} {n : ℕ} {out : List ℕ} → Stands l n out → paper_bytes < length l → n ≡ 60001
stands-counted (whole g e h f) l = absurd (omega arith)
stands-counted (passed g e h) l = e

-- ---- the paper handed over

module _ (tries : ℕ) (buffer : List ℕ) {w : List ℕ} {n : ℕ} {draft : List ℕ} where
  pub hand-small : Stands w n draft → length buffer < n → only buffer (refused 14) ≡ hand_over tries w buffer
  hand-small (whole g e h f) l = sym (hand-no-room tries w buffer (omega arith))
  hand-small (passed g e h) l = sym (hand-long tries w buffer h)

  pub hand-passed : Stands w n draft → paper_bytes < n → only buffer (refused 14) ≡ hand_over tries w buffer
  hand-passed (whole g e h f) l = absurd (omega arith)
  hand-passed (passed g e h) l = sym (hand-long tries w buffer h)

  -- the front of the buffer is the draft's
  pub hand-copied : Stands w n draft → n ≤ length buffer → n ≤ paper_bytes → {front : List ℕ} → front ≡ take n draft
      → record { told = paper tries n; buffer = front ++ drop n buffer } ≡ hand_over tries w buffer
  unfolding write_at
  hand-copied (whole g e h f) l m c = rw (c, f, e) (sym (hand-over tries w buffer (omega arith) (omega arith)))
  hand-copied (passed g e h) l m c = absurd (omega arith)

-- ---- the paper put together

module _ (k : Claim) (steps : List ℕ) (w : List RuleNo) {from m n count : ℕ} {before draft out : List ℕ} where
  paper-listed : Stands steps from before → count ≡ length w → Writes (numbers w) from before m draft
      → Writes (trailer k count from) m draft n out → Stands (paper_with k steps w) n out
  paper-listed (whole g e h f) c l v = rw (← c, ← e, ← append_assoc) (v.behind _ (l.behind steps (whole g e h f)))
  paper-listed (passed g e h) c l v =
      passed (stands-long s) (stands-counted s (simp length-append (omega arith))) (simp length-append (omega arith))
    where
      s : Stands ((steps ++ numbers w) ++ trailer k count from) n out
      s = v.behind _ (l.behind steps (passed g e h))

module _ (k : Claim) (steps : List ℕ) {from n : ℕ} {before out : List ℕ} (s : Stands steps from before) where
  pub paper-whole : (b : Book) (x : Atoms) {m count : ℕ} {draft : List ℕ} → count ≡ length (witness_of b x)
      → Writes (numbers (witness_of b x)) from before m draft → Writes (trailer k count from) m draft n out
      → Stands (whole_paper b k steps x) n out
  unfolding whole_paper
  paper-whole b x c l v = paper-listed k steps (witness_of b x) s c l v

  -- no witness: the trailer stands just behind the steps
  pub paper-bare : Writes (trailer k 0 from) from before n out → Stands (paper_with k steps []) n out
  paper-bare v = paper-listed k steps [] s refl (writes-nil from before) v
