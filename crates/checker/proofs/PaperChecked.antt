-- The whole check, one law for each answer: the book's refusals, then the paper's length, mark and trailer, then its steps and its witness.
-- Each is the definition with the tests before it decided. Document 01, "Numbers given back".
use mathlib.Core.Path.{◌≡◌, refl, sym, ◌∙◌, ap, subst}
use mathlib.Core.Bool.{Bool, true, false}
use mathlib.Core.List.{List}
use Rattle.std.specs.Prelude.{Result, Err}
use Prim.Native.Nat.{ℕ, suc, ◌+◌, ◌-◌, ◌≤◌, ◌<◌}
use native.Mathlib.Omega.{arith}
use lib.Dec.{ltb, eqb}
use lib.ListN.{length, get_or}
use Rattle.meaning.specs.Written.{Tables}
use Rattle.meaning.specs.Books.{atom_no, Book}
use Rattle.meaning.specs.declared.AtomNo.{AtomNo}
use Rattle.meaning.specs.declared.kind.Kind.{Kind}
use Rattle.meaning.specs.declared.kind.Claim.{Claim}
use Rattle.meaning.specs.declared.kind.Marked.{Marked}
use Rattle.meaning.specs.declared.kind.Claim.TheVariants.{NoReading}
use Rattle.meaning.specs.declared.kind.Marked.TheVariants.{Of, Neither}
use Rattle.meaning.specs.declared.kind.Marked.TheVariants.{NoReading as OfNoReading}
use Rattle.meaning.specs.Claim.{claim}
use Rattle.meaning.specs.Told.{Told, success, refused_at}
use Rattle.meaning.specs.Written.{nothing, pair}
use Rattle.meaning.proofs.Choice.{b-yes, b-no, lt_yes, lt_no, eq_yes, eq_no}
use Rattle.meaning.proofs.Written.{pair-nothing}
use Rattle.meaning.specs.Paper.{paper_bytes}
use Rattle.book.specs.declared.reader.Shape.{Shape}
use Rattle.book.specs.Numbers.{shape}
use Rattle.book.specs.Format.{u16_at, BookRead, good, bad, read_of, told_of, book_of, book_in, ReadAs}
use Rattle.checker.specs.Branches.{Walked, done, BranchTo}
use Rattle.checker.specs.Witness.{Check, fine, wrong, witness_verdict, grounds_verdict}
use Rattle.checker.specs.declared.answer.Rejected.{Rejected}
use Rattle.checker.specs.declared.answer.Rejected.TheVariants.{Length, Mark, Atom, Form, Fails, Gap}
use Rattle.checker.specs.declared.answer.Rejected.TheVariants.{Book as BadBook, Trailer as Count, Witness as Wrong}
use Rattle.checker.specs.declared.trailer.Trailer.{Trailer}
use Rattle.checker.specs.Numbers.{number_of}
use Rattle.checker.specs.Parts.{OfTheEnd, EndFits, EndsAs}
use Rattle.checker.specs.Check.{witness_told, branch_told, steps_told, stated, trailer_told, marked_told, paper_of, check_read, check_of}
use Rattle.checker.proofs.Marked.{mark_in}

-- ---- the steps and the witness, where the first branch, from the empty colouring, has come to x

pub steps-are : (b : Book) (k : Claim) (s : List ℕ) (w from : ℕ) {c : Tables} {x : Walked} → c ≡ nothing
    → BranchTo b k s from 0 (pair c) x → branch_told b k s w from x ≡ steps_told b k s w from
unfolding steps_told
steps-are b k s w from e p =
    ap (branch_told b k s w from) (rw (ap pair e ∙ pair-nothing) at (p (suc from) (omega arith)))

module _ (b : Book) (k : Claim) (s : List ℕ) (w from at : ℕ) where
  pub told-gap : (at ≡ from → ⊥) → refused_at 26 at ≡ branch_told b k s w from (done at)
  unfolding branch_told
  told-gap n = sym (eq_no _ _ _ _ n)

  module _ (h : at ≡ from) where
    pub told-wrong : {place : ℕ} → wrong place ≡ grounds_verdict k b s from w → refused_at 27 place ≡ branch_told b k s w from (done at)
    unfolding branch_told witness_told
    told-wrong e = sym (rw (← e) (eq_yes _ _ _ _ h))

    pub told-fine : fine ≡ grounds_verdict k b s from w → success k ≡ branch_told b k s w from (done at)
    unfolding branch_told witness_told
    told-fine e = sym (rw (← e) (eq_yes _ _ _ _ h))

-- ---- what the claim asks behind the steps

module _ (b : Book) (k : Claim) (s : List ℕ) (from w : ℕ) where
  pub grounds-about : {q : Kind} {a : AtomNo} → k ≡ claim q a → {c : Check} → c ≡ witness_verdict b s from w
      → c ≡ grounds_verdict k b s from w
  unfolding grounds_verdict
  grounds-about e f = f ∙ rw e

  module _ (e : k ≡ NoReading) where
    pub grounds-some : (w ≡ 0 → ⊥) → wrong from ≡ grounds_verdict k b s from w
    unfolding grounds_verdict
    grounds-some n = rw e (sym (eq_no _ _ _ _ n))

    pub grounds-none : w ≡ 0 → fine ≡ grounds_verdict k b s from w
    unfolding grounds_verdict
    grounds-none z = rw e (sym (eq_yes _ _ _ _ z))

-- ---- what the last bytes come to

of-the-end : (f : Rejected) → OfTheEnd f → (20 ≤ number_of f) × (number_of f ≤ 23)
of-the-end Length u = (omega arith, omega arith)
of-the-end (Mark at) u = (omega arith, omega arith)
of-the-end (Count at) u = (omega arith, omega arith)
of-the-end (Atom at) u = (omega arith, omega arith)
of-the-end (BadBook why) u = absurd u
of-the-end (Form at) u = absurd u
of-the-end (Fails at) u = absurd u
of-the-end (Gap at) u = absurd u
of-the-end (Wrong at) u = absurd u

module _ {b : Book} {s : List ℕ} {x : Told Claim} {e : Result Trailer Rejected} (p : EndsAs b s x e) where
  pub ends-told : {y : Told Claim} → x ≡ y → EndsAs b s y e
  ends-told q = record { told = p.told ∙ q; fits = p.fits }

  pub ends-fit : {f : Result Trailer Rejected} → e ≡ f → EndFits s f
  ends-fit q = subst (EndFits s) q p.fits

  -- a refusal is one of the last bytes, and none of the book, the steps or the witness
  pub ends-refused : {f : Rejected} → e ≡ Err f → (20 ≤ number_of f) × (number_of f ≤ 23)
  ends-refused q = of-the-end _ (ends-fit q)

-- ---- the length, the mark and the trailer

-- the trailer's first byte by the claim's cases
module _ (k : Claim) (atoms n : ℕ) where
  pub stated-about : {q : Kind} {a : AtomNo} → k ≡ claim q a → ltb a.0 atoms ≡ stated k atoms n
  unfolding stated
  stated-about e = rw e

  pub stated-nothing : k ≡ NoReading → eqb n 0 ≡ stated k atoms n
  unfolding stated
  stated-nothing e = rw e

module _ (b : Book) (s : List ℕ) where
  pub paper-short : length s < 6 → paper_of b s ≡ refused_at 20 0
  unfolding paper_of
  paper-short h = lt_yes _ _ _ _ h

  pub paper-long : paper_bytes < length s → paper_of b s ≡ refused_at 20 0
  unfolding paper_of
  paper-long h = lt_no _ _ _ _ (omega arith) ∙ lt_yes _ _ _ _ h

  -- m is what the code found of the mark
  pub paper-marked : 6 ≤ length s → length s ≤ paper_bytes → {m n : Marked} → m ≡ mark_in s → m ≡ n → marked_told b s n ≡ paper_of b s
  unfolding paper_of
  paper-marked h g e f = sym (lt_no _ _ _ _ h ∙ lt_no _ _ _ _ g ∙ ap (marked_told b s) (sym e ∙ f))

  -- what is told of a paper with this claim
  abbrev read_told : Claim → Told Claim
  read_told k = trailer_told b k s (get_or s (length s - 5) 0) (u16_at s (length s - 4))

  pub mark-neither : refused_at 21 (length s - 2) ≡ marked_told b s Neither
  unfolding marked_told
  mark-neither = refl

  -- a mark that makes a claim
  pub mark-claims : (q : Kind) → read_told (claim q (atom_no (get_or s (length s - 6) 0))) ≡ marked_told b s (Of q)
  unfolding marked_told
  mark-claims q = refl

  pub mark-no-reading : read_told NoReading ≡ marked_told b s OfNoReading
  unfolding marked_told
  mark-no-reading = refl

  -- the claim k; w and from are the trailer's numbers, and v what is found of its first byte, as the code has them
  module _ (k : Claim) {w from : ℕ} (count : w ≡ get_or s (length s - 5) 0) (start : from ≡ u16_at s (length s - 4)) where
    trailer-read : read_told k ≡ trailer_told b k s w from
    trailer-read = rw (count, start)

    pub trailer-wrong : (from + w + 6 ≡ length s → ⊥) → read_told k ≡ refused_at 22 (length s - 4)
    unfolding trailer_told
    trailer-wrong z = trailer-read ∙ eq_no _ _ _ _ z

    module _ (z : from + w + 6 ≡ length s) {n : ℕ} (atoms : n ≡ b.atoms) {v : Bool}
        (found : v ≡ stated k n (get_or s (length s - 6) 0)) where
      pub byte-wrong : v ≡ false → read_told k ≡ refused_at 23 (length s - 6)
      unfolding trailer_told
      byte-wrong e = trailer-read ∙ eq_yes _ _ _ _ z ∙ b-no _ _ _ (rw (← atoms, ← found) e)

      pub byte-good : v ≡ true → read_told k ≡ steps_told b k s w from
      unfolding trailer_told
      byte-good e = trailer-read ∙ eq_yes _ _ _ _ z ∙ b-yes _ _ _ (rw (← atoms, ← found) e)

-- ---- the book

read-refused : (x : BookRead) (p : List ℕ) (i at : ℕ) → told_of x ≡ refused_at i at → check_read x p ≡ refused_at i at
unfolding told_of check_read
read-refused (good n k index l) p i at e = let z : ◌≡◌ {A = ℕ} 0 1 = cc in absurd (omega arith)
read-refused (bad j place) p i at e = cc

pub check-refused : (s p : List ℕ) (i at : ℕ) → told_of (read_of s) ≡ refused_at i at → check_of s p ≡ refused_at i at
unfolding check_of
check-refused s p i at e = read-refused (read_of s) p i at e

read-good : (x : BookRead) (p : List ℕ) (n k index : ℕ) → told_of x ≡ shape n k index → check_read x p ≡ paper_of (book_of x) p
unfolding told_of check_read book_of
read-good (good n k index l) p i j m e = refl
read-good (bad j place) p n k index e = let z : ◌≡◌ {A = ℕ} 0 1 = cc in absurd (omega arith)

pub check-good : (s p : List ℕ) (h : Shape) → ReadAs s h → check_of s p ≡ paper_of (book_in s) p
unfolding check_of book_in
check-good s p h e = read-good (read_of s) p _ _ _ e
