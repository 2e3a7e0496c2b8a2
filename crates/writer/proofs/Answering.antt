-- A call for a paper as the code goes through it (specs/Write; document 01, "Naming: 13; then answer set 1 with limit L ...; then the
-- paper's walk with a fresh L (9, 12); then 14"): what is told after the first walk, and after the paper's walk.
use mathlib.Core.Path.{◌≡◌, refl, sym, ◌∙◌, ap}
use mathlib.Core.List.{List, []}
use Prim.Native.Nat.{ℕ, ◌<◌, ◌≤◌}
use native.Mathlib.Omega.{arith}
use lib.ListN.{length}
use Rattle.meaning.specs.Written.{Tables}
use Rattle.meaning.specs.Books.{Book}
use Rattle.meaning.specs.declared.AtomNo.{AtomNo}
use Rattle.meaning.specs.declared.kind.Kind.{Kind}
use Rattle.meaning.specs.declared.kind.Kind.TheVariants.{Naming, Clearing}
use Rattle.meaning.specs.declared.kind.Claim.{Claim}
use Rattle.meaning.specs.declared.kind.Claim.TheVariants.{NoReading}
use Rattle.meaning.specs.Claim.{claim, claimed}
use Rattle.meaning.specs.Told.{Told, refused_at, refused, fewer, stopped, Answered}
use Rattle.meaning.specs.Written.{nothing, pair}
use Rattle.meaning.proofs.Choice.{lt_yes, lt_no}
use Rattle.meaning.proofs.Written.{pair-nothing}
use Rattle.meaning.specs.Paper.{paper_bytes, paper_with}
use Rattle.meaning.proofs.Tests.{apart}
use Rattle.book.specs.declared.refusal.Refusal.{Refusal}
use Rattle.book.specs.declared.reader.Shape.{Shape}
use Rattle.book.specs.Numbers.{shape, number_of, place_of}
use Rattle.book.specs.Format.{BookRead, good, bad, read_of, told_of, book_of, book_in, ReadAs}
use Rattle.walk.specs.Run.{State}
use Rattle.walk.specs.Page.{set_in}
use Rattle.walk.specs.declared.tally.Tally.{Tally}
use Rattle.walk.specs.declared.tally.Halt.TheVariants.{Going, Full, Limit}
use Rattle.walk.specs.Find.{first_walk}
use Rattle.writer.specs.Branches.{branches}
use Rattle.writer.specs.Scan.{Progress, writing, scan}
use Rattle.writer.specs.PaperNeeds.{whole_paper}
use Rattle.writer.specs.Write.{Handed, lacking, failing, paper_walk, hand_over, after_paper_walk}
use Rattle.writer.specs.Write.{after_first_walk, witnessed, unwitnessed, write_in, write_read, write_of}
use Rattle.writer.specs.Draft.{whole, Stage}
use Rattle.writer.specs.declared.split.Course.TheVariants.{Writing, Limited, Refuted}
use Rattle.writer.specs.declared.split.Drafted.{Drafted}
use Rattle.writer.proofs.Stages.{only}

-- ---- the draft at the start, and behind the paper's walk

-- no try, no byte
abbrev pub blank : Progress
blank = record { tries = 0; bytes = []; course = writing }

pub stage-blank : {out : List ℕ} → length out ≡ paper_bytes → Stage (record { tries = 0; length = 0; course = Writing }) out blank
stage-blank h = record { tries = refl; bytes = whole h refl (omega arith) refl; course = refl }

pub stage-paper : (b : Book) (k : Claim) (limit : ℕ) {c : Tables} {q : Drafted} {draft : List ℕ} → c ≡ nothing
    → Stage q draft (scan limit blank (branches b k (pair c))) → Stage q draft (paper_walk b k limit)
unfolding paper_walk
stage-paper b k limit e d = rw (e, pair-nothing) at d

-- ---- the answer behind the paper's walk, which has come to p

module _ (k : Claim) (limit : ℕ) (w buffer : List ℕ) (p : Progress) {q : Drafted} {draft : List ℕ} (d : Stage q draft p) where
  abbrev after : Answered Handed
  after = after_paper_walk p.course k limit p.tries w buffer

  pub after-limited : q.course ≡ Limited → only buffer (stopped limit) ≡ after
  unfolding after_paper_walk
  after-limited f = rw (← d.course, f)

  pub after-refuted : q.course ≡ Refuted → {t : Told Handed} → t ≡ refused (failing k) → only buffer t ≡ after
  unfolding after_paper_walk
  after-refuted f e = ap (only buffer) e ∙ rw (← d.course, f)

  pub after-handed : q.course ≡ Writing → {a : Answered Handed} → a ≡ hand_over q.tries w buffer → a ≡ after
  unfolding after_paper_walk
  after-handed f g = g ∙ rw (← d.course, f, d.tries)

-- ---- a claim that stands on a reading: the first walk, which has come to t and the row; then the paper's walk

module _ (b : Book) (k : Claim) (limit : ℕ) (buffer : List ℕ) {t : Tally} {row : List ℕ}
    (e : ◌≡◌ {A = State} (record { tally = t; out = row }) (first_walk b limit)) where
  write-first : witnessed b k limit buffer ≡ after_first_walk t.halt b k limit (record { tally = t; out = row }) buffer
  unfolding witnessed
  write-first = rw (← e)

  pub write-fewer : t.halt ≡ Going → only buffer (fewer t.tries 0 t.clash.0) ≡ witnessed b k limit buffer
  unfolding after_first_walk
  write-fewer h = sym (write-first ∙ rw h)

  pub write-first-limit : t.halt ≡ Limit → only buffer (stopped limit) ≡ witnessed b k limit buffer
  unfolding after_first_walk
  write-first-limit h = sym (write-first ∙ rw h)

  pub write-full : t.halt ≡ Full → {a : Answered Handed} → (let p = paper_walk b k limit in
      a ≡ after_paper_walk p.course k limit p.tries (whole_paper b k p.bytes (set_in row)) buffer) → a ≡ witnessed b k limit buffer
  unfolding after_first_walk
  write-full h g = g ∙ sym (write-first ∙ rw h)

-- one that stands on none: the paper's walk alone
pub write-bare : (b : Book) (k : Claim) (limit : ℕ) (buffer : List ℕ) {a : Answered Handed} → (let p = paper_walk b k limit in
    a ≡ after_paper_walk p.course k limit p.tries (paper_with k p.bytes []) buffer) → a ≡ unwitnessed b k limit buffer
unfolding unwitnessed
write-bare b k limit buffer g = g

-- ---- by the claim

-- the claim's byte is the number of a place in the tables of atoms
pub claimed-atom : (k : Claim) {q : Kind} {atom : AtomNo} → k ≡ claim q atom → atom.0 < 255 → claimed k < 255
unfolding claimed
claimed-atom k e h = rw e h

pub claimed-nothing : (k : Claim) → k ≡ NoReading → claimed k < 255
unfolding claimed
claimed-nothing k e = rw e (omega arith)

-- the number where the claim fails
module _ (k : Claim) where
  module _ {q : Kind} {atom : AtomNo} (e : k ≡ claim q atom) where
    pub failing-naming : q ≡ Naming → 12 ≡ failing k
    unfolding failing lacking
    failing-naming f = rw (e, f)

    pub failing-clearing : q ≡ Clearing → 18 ≡ failing k
    unfolding failing lacking
    failing-clearing f = rw (e, f)

  pub failing-no-reading : k ≡ NoReading → 38 ≡ failing k
  unfolding failing
  failing-no-reading e = rw e

module _ (b : Book) (k : Claim) (limit : ℕ) (buffer : List ℕ) where
  module _ {q : Kind} {atom : AtomNo} (e : k ≡ claim q atom) where
    pub about-no-atom : b.atoms ≤ atom.0 → only buffer (refused 13) ≡ write_in b k limit buffer
    unfolding write_in
    about-no-atom h = rw e (sym (lt_no _ _ _ _ h))

    pub about-atom : atom.0 < b.atoms → {a : Answered Handed} → a ≡ witnessed b (claim q atom) limit buffer
        → a ≡ write_in b k limit buffer
    unfolding write_in
    about-atom h g = g ∙ rw e (sym (lt_yes _ _ _ _ h))

  module _ (e : k ≡ NoReading) where
    pub about-nothing : {a : Answered Handed} → a ≡ unwitnessed b k limit buffer → a ≡ write_in b k limit buffer
    unfolding write_in
    about-nothing g = g ∙ rw e

-- ---- the book

-- what is told of a reading decides how the call goes on
module _ (k : Claim) (limit : ℕ) (buffer : List ℕ) where
  read-good : (x : BookRead) {n r index : ℕ} → told_of x ≡ shape n r index
      → write_read x k limit buffer ≡ write_in (book_of x) k limit buffer
  unfolding told_of write_read book_of
  read-good (good n r index l) e = refl
  read-good (bad i at) e = apart (cc)

  read-bad : (x : BookRead) {i at : ℕ} → told_of x ≡ refused_at i at
      → only buffer (refused_at i at) ≡ write_read x k limit buffer
  unfolding told_of write_read
  read-bad (good n r index l) e = apart (cc)
  read-bad (bad j to) e = cc

  module _ (s : List ℕ) where
    pub write-bad : (f : Refusal) → refused_at (number_of f) (place_of f) ≡ told_of (read_of s)
        → only buffer (refused_at (number_of f) (place_of f)) ≡ write_of s k limit buffer
    unfolding write_of
    write-bad f e = read-bad (read_of s) (sym e)

    pub write-good : {h : Shape} → ReadAs s h → {r : Answered Handed} → r ≡ write_in (book_in s) k limit buffer → r ≡ write_of s k limit buffer
    unfolding write_of book_in
    write-good g f = f ∙ sym (read-good (read_of s) g)
