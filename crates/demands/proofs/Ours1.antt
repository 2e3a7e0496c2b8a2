-- Our engine meets demand 1: finding by what holds along any walk (proofs/Found). What a call for a paper tells is followed down the tests
-- in their order: the book, then the atom, then the walks, which tell none of these refusals; and the buffer stays, since only the paper
-- that is told is written.
use mathlib.Core.Path.{◌≡◌, refl, sym, ◌∙◌, ap, subst}
use mathlib.Core.Logic.{⊎_elim, ◌↔◌}
use mathlib.Core.List.{List}
use Prim.Native.Nat.{ℕ, ◌≤◌}
use native.Mathlib.Omega.{arith}
use Rattle.meaning.specs.declared.AtomNo.{AtomNo}
use Rattle.meaning.specs.Books.{Book}
use Rattle.meaning.specs.declared.kind.Kind.{Kind}
use Rattle.meaning.specs.Claim.{claim}
use Rattle.meaning.specs.Told.{Told, refused_at, refused, fewer, stopped, Answered}
use Rattle.meaning.proofs.Choice.{lt_no, lt-either}
use Rattle.meaning.proofs.Tests.{apart}
use Rattle.walk.specs.Run.{State}
use Rattle.walk.specs.Find.{fixed_walk, find_of}
use Rattle.walk.specs.declared.tally.Halt.{Halt}
use Rattle.walk.specs.declared.tally.Halt.TheVariants.{Going, Full, Limit}
use Rattle.writer.specs.Scan.{Course, writing, limited, refuted}
use Rattle.writer.specs.Write.{Handed, paper, lacking}
use Rattle.writer.specs.Write.{failing, hand_over, after_paper_walk, after_first_walk, witnessed, write_in, write_of}
use Rattle.writer.proofs.Claiming.{lacking-is}
use Rattle.writer.proofs.Stages.{write-bad-book, write-keeps-buffer}
use Rattle.demands.specs.Engine.{ours}
use Rattle.demands.specs.Damaged.{GoodBook, DamagedBook}
use Rattle.demands.specs.Demand1.{Demand1}
use Rattle.demands.proofs.Damaged.{damaged-bad, every-book, check-refused}
use Rattle.demands.specs.FindsBy.{FindsBy}
use Rattle.demands.proofs.Calls.{written_as}
use Rattle.demands.proofs.Found.{finds-by}

-- ---- naming and clearing

-- what a call for a paper of this kind tells, and for 13 why
data Writes (q : Kind) (atom atoms : ℕ) : Told Handed → Type 0 where
  no-atom : atoms ≤ atom → Writes q atom atoms (refused 13)
  open-branch : {i : ℕ} → i ≡ lacking q → Writes q atom atoms (refused i)
  passes-room : Writes q atom atoms (refused 14)
  written : {t n : ℕ} → Writes q atom atoms (paper t n)
  none : {t n r : ℕ} → Writes q atom atoms (fewer t n r)
  limit-met : {l : ℕ} → Writes q atom atoms (stopped l)

module _ (b : Book) (q : Kind) (a : AtomNo) (limit : ℕ) (buffer : List ℕ) where
  abbrev WriteTells : Answered Handed → Type 0
  WriteTells m = Writes q a.0 b.atoms m.told

  hand-tells : (tries : ℕ) (whole : List ℕ) → WriteTells (hand_over tries whole buffer)
  unfolding hand_over
  hand-tells tries whole = lt-either WriteTells _ _ _ _ (λ h. passes-room) λ h. lt-either WriteTells _ _ _ _ (λ g. passes-room) λ g. written

  paper-tells : (h : Course) (tries : ℕ) (whole : List ℕ) → WriteTells (after_paper_walk h (claim q a) limit tries whole buffer)
  unfolding after_paper_walk failing
  paper-tells writing tries whole = hand-tells tries whole
  paper-tells limited tries whole = limit-met
  paper-tells refuted tries whole = open-branch refl

  first-tells : (h : Halt) (s : State) → WriteTells (after_first_walk h b (claim q a) limit s buffer)
  unfolding after_first_walk
  first-tells Going s = none
  first-tells Full s = paper-tells _ _ _
  first-tells Limit s = limit-met

  write-tells : WriteTells (write_in b (claim q a) limit buffer)
  unfolding write_in witnessed
  write-tells = lt-either WriteTells _ _ _ _ (λ h. first-tells _ _) no-atom

module _ (q : Kind) (book : List ℕ) (a : AtomNo) (limit : ℕ) (buffer : List ℕ) where
  bad-asked : {i at : ℕ} → DamagedBook book i at → (write_of book (claim q a) limit buffer).told ≡ refused_at i at
  bad-asked d = ap (λ (m : Answered Handed). m.told) (write-bad-book book (claim q a) limit buffer _ _ (damaged-bad book d))

  write-cases : {t : Told Handed} (A : Type 0) → (write_of book (claim q a) limit buffer).told ≡ t
      → ((b : Book) → GoodBook book b → Writes q a.0 b.atoms t → A)
      → ((i at : ℕ) → DamagedBook book i at → refused_at i at ≡ t → A) → A
  write-cases A e f g = ⊎_elim
      (λ (b, h). f b h (subst (Writes q a.0 b.atoms) (ap (λ (m : Answered Handed). m.told) (sym (written_as h (claim q a) limit buffer)) ∙ e)
      (write-tells b q a limit buffer)))
      (λ (i, at, d). g i at d (sym (bad-asked d) ∙ e)) (every-book book)

  write-damaged : (i at : ℕ) → ((write_of book (claim q a) limit buffer).told ≡ refused_at i at) ↔ DamagedBook book i at
  write-damaged i at = (
    λ e. write-cases (DamagedBook book i at) e (λ b g. never)
        (λ j p d q. let u : j ≡ i = cc in let v : p ≡ at = cc in rw (u, v) at d),
    bad-asked,
  )
    where
      never : {i at atom atoms : ℕ} {A : Type 0} → Writes q atom atoms (refused_at i at) → A
      never w = elim w [ ]

  write-beyond : ((write_of book (claim q a) limit buffer).told ≡ refused 13) ↔ ((b : Book) × GoodBook book b × (b.atoms ≤ a.0))
  unfolding write_in
  write-beyond = (
    λ e. write-cases ((b : Book) × GoodBook book b × (b.atoms ≤ a.0)) e (λ b g w. (b, g, there w)) (λ i at d q. apart (cc)),
    λ (b, g, h). ap (λ (m : Answered Handed). m.told) (written_as g (claim q a) limit buffer ∙ lt_no _ _ _ _ h),
  )
    where
      there : {atom atoms : ℕ} → Writes q atom atoms (refused 13) → atoms ≤ atom
      there (no-atom h) = h
      there (open-branch e) = absurd (⊎_elim (λ p. omega (arith, p, e)) (λ p. omega (arith, p, e)) (lacking-is q))

found : FindsBy fixed_walk find_of
found = finds-by fixed_walk

pub ours-1 : Demand1 ours
ours-1 = record {
  find-book = found.tells-book;
  write-book = write-damaged;
  check-bytes = check-refused;
  find-number = found.tells-number;
  find-room = found.tells-room;
  write-atom = write-beyond;
  find-keeps = found.keeps;
  write_keeps = λ q book a limit buffer f.
      ⊎_elim (λ (t, n, e). absurd (f t n e)) (λ e. e) (write-keeps-buffer book (claim q a) limit buffer);
}
