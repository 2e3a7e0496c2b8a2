-- For each of 20 to 27: checking gives this number and place exactly if the book is good, the number's row of the table holds and no row
-- before it does. What is told is found in its row (proofs/Rows), and a row's own tests tell it. Document 01, "Numbers given back".
use mathlib.Core.Path.{◌≡◌, refl}
use mathlib.Core.Logic.{◌↔◌}
use mathlib.Core.List.{List}
use Prim.Native.Nat.{ℕ, suc, ◌+◌, ◌-◌, ◌<◌, ◌≤◌}
use native.Mathlib.Nat.{sub-zero}
use native.Mathlib.Omega.{arith}
use lib.ListN.{length, take}
use Rattle.meaning.specs.Books.{Book}
use Rattle.meaning.specs.Colours.{Pair, start}
use Rattle.meaning.specs.declared.kind.Claim.{Claim}
use Rattle.meaning.specs.Paper.{Branch}
use Rattle.meaning.specs.Told.{refused_at}
use Rattle.book.specs.Format.{bad, read_of, book_in}
use Rattle.book.specs.Rows.{GoodBook}
use Rattle.book.proofs.Refusals.{bad-number}
use Rattle.checker.specs.Steps.{fails}
use Rattle.checker.specs.Branches.{done, wrong_at}
use Rattle.checker.specs.Check.{check_of}
use Rattle.checker.specs.Rows.{count_of, start_of, claim_of, witness_bytes, LengthGood, MarkGood, TrailerGood, AtomGood, FramedPaper}
use Rattle.checker.specs.Rows.{Malformed, Unheld, Comes, first_step}
use Rattle.checker.specs.Places.{UngroundedAt}
use Rattle.checker.proofs.Steps.{StepIs, malformed, unheld, held}
use Rattle.checker.proofs.Branches.{done-between, done-branch, part-done}
use Rattle.checker.proofs.Comes.{refused-comes, comes-refused}
use Rattle.checker.proofs.Grounds.{grounds-wrong, wrong-grounds}
use Rattle.checker.proofs.Rows.{walk_of, PaperRow, at_length, at_mark, at-trailer, at-atom, at-form, at-step, at_gap}
use Rattle.checker.proofs.Rows.{at-witness, CheckRow, at-book, at-paper, checked-row, row-checked}

module _ (book paper : List ℕ) where
  abbrev b : Book
  b = book_in book

  abbrev from : ℕ
  from = start_of paper

  abbrev k : Claim
  k = claim_of paper

  -- ---- the book first

  paper-number : {i at : ℕ} → PaperRow b paper (refused_at i at) → 20 ≤ i
  paper-number (at_length l) = omega arith
  paper-number (at_mark l m) = omega arith
  paper-number (at-trailer l m t) = omega arith
  paper-number (at-atom l m t a) = omega arith
  paper-number (at-form f e) = omega arith
  paper-number (at-step f e) = omega arith
  paper-number (at_gap f e n) = omega arith
  paper-number (at-witness f e w) = omega arith

  -- 1 to 7, at the place in the book: the book is refused so
  pub refused-book : (i at : ℕ) → i ≤ 7 → (check_of book paper ≡ refused_at i at) ↔ (read_of book ≡ bad i at)
  refused-book i at h = (λ e. there h (checked-row book paper e), λ e. row-checked book paper (at-book e))
    where
      there : {i at : ℕ} → i ≤ 7 → CheckRow book paper (refused_at i at) → read_of book ≡ bad i at
      there h (at-book e) = e
      there h (at-paper g r) = absurd (omega (arith, paper-number r))

  -- a number beyond the book's, and what its row says
  exactly : {A : Type 0} {i at : ℕ} → 7 < i → (PaperRow b paper (refused_at i at) → A) → (A → PaperRow b paper (refused_at i at))
      → (check_of book paper ≡ refused_at i at) ↔ (GoodBook book b × A)
  exactly {A} h there back = (λ e. this h there (checked-row book paper e), λ (g, a). row-checked book paper (at-paper g (back a)))
    where
      this : {i at : ℕ} → 7 < i → (PaperRow b paper (refused_at i at) → A) → CheckRow book paper (refused_at i at) → GoodBook book b × A
      this h there (at-book e) = absurd (omega (arith, bad-number book e))
      this h there (at-paper g r) = (g, there r)

  -- ---- 20 to 23

  -- 20, at 0: the paper has under 6 or over 60,000 bytes
  pub refused-length : (at : ℕ) → (check_of book paper ≡ refused_at 20 at) ↔ (GoodBook book b × ((¬ LengthGood paper) × (at ≡ 0)))
  refused-length at = exactly (omega arith) there (λ (l, p). rw p (at_length l))
    where
      there : {at : ℕ} → PaperRow b paper (refused_at 20 at) → (¬ LengthGood paper) × (at ≡ 0)
      there (at_length l) = (l, refl)

  -- 21, at length - 2: the length is right, and the mark is none of 50 46, 50 43 and 50 4e
  pub refused-mark : (at : ℕ) → (check_of book paper ≡ refused_at 21 at)
      ↔ (GoodBook book b × (LengthGood paper × (¬ MarkGood paper) × (at ≡ length paper - 2)))
  refused-mark at = exactly (omega arith) there (λ (l, m, p). rw p (at_mark l m))
    where
      there : {at : ℕ} → PaperRow b paper (refused_at 21 at) → LengthGood paper × (¬ MarkGood paper) × (at ≡ length paper - 2)
      there (at_mark l m) = (l, m, refl)

  -- 22, at length - 4: these are right, and witness start + w + 6 isn't the length
  pub refused-trailer : (at : ℕ) → (check_of book paper ≡ refused_at 22 at)
      ↔ (GoodBook book b × (LengthGood paper × MarkGood paper × (¬ TrailerGood paper) × (at ≡ length paper - 4)))
  refused-trailer at = exactly (omega arith) there (λ (l, m, t, p). rw p (at-trailer l m t))
    where
      there : {at : ℕ} → PaperRow b paper (refused_at 22 at)
          → LengthGood paper × MarkGood paper × (¬ TrailerGood paper) × (at ≡ length paper - 4)
      there (at-trailer l m t) = (l, m, t, refl)

  -- 23, at length - 6: these are right, and the claimed atom isn't below A, or its byte isn't 0 where no atom is claimed
  pub refused-atom : (at : ℕ) → (check_of book paper ≡ refused_at 23 at)
      ↔ (GoodBook book b × (LengthGood paper × MarkGood paper × TrailerGood paper × (¬ AtomGood b paper) × (at ≡ length paper - 6)))
  refused-atom at = exactly (omega arith) there (λ (l, m, t, a, p). rw p (at-atom l m t a))
    where
      there : {at : ℕ} → PaperRow b paper (refused_at 23 at)
          → LengthGood paper × MarkGood paper × TrailerGood paper × (¬ AtomGood b paper) × (at ≡ length paper - 6)
      there (at-atom l m t a) = (l, m, t, a, refl)

  -- ---- 24 and 25: the steps in order

  module _ (f : FramedPaper b paper) where
    inside : from ≤ length paper
    inside = let t = f.trailer in omega arith

    came : {i at : ℕ} → walk_of b paper ≡ wrong_at i at → (c : Pair) × Comes b k paper from at c × StepIs b k paper from at c (fails i)
    came e = refused-comes b k paper from inside (suc from) 0 start (omega arith) e first_step

  -- 24: none of these, and the checker comes to a step that is malformed
  pub refused-form : (at : ℕ) → (check_of book paper ≡ refused_at 24 at)
      ↔ (GoodBook book b × (FramedPaper b paper × (c : Pair) × Comes b k paper from at c × Malformed b paper from at))
  refused-form at = exactly (omega arith) there
      (λ (f, c, p, m). at-form f (comes-refused b k paper from (inside f) 24 at p (malformed m)))
    where
      is-malformed : {c : Pair} → StepIs b k paper from at c (fails 24) → Malformed b paper from at
      is-malformed (malformed m) = m
      is-malformed (held {t = t} h _) = elim h [ ]

      there : PaperRow b paper (refused_at 24 at) → FramedPaper b paper × (c : Pair) × Comes b k paper from at c × Malformed b paper from at
      there (at-form f e) = let (c, p, q) = came f e in (f, c, p, is-malformed q)

  -- 25: none of these, and the checker comes to a step that is well-formed and whose condition does not hold
  pub refused-step : (at : ℕ) → (check_of book paper ≡ refused_at 25 at)
      ↔ (GoodBook book b × (FramedPaper b paper × (c : Pair) × Comes b k paper from at c × Unheld b k paper from at c))
  refused-step at = exactly (omega arith) there
      (λ (f, c, p, u). at-step f (comes-refused b k paper from (inside f) 25 at p (unheld u.formed u.fails)))
    where
      is-unheld : {c : Pair} → StepIs b k paper from at c (fails 25) → Unheld b k paper from at c
      is-unheld (held {t = t} h _) = elim h [ ]
      is-unheld (unheld f e) = record { test = _; next = _; formed = f; fails = e }

      there : PaperRow b paper (refused_at 25 at) → FramedPaper b paper × (c : Pair) × Comes b k paper from at c × Unheld b k paper from at c
      there (at-step f e) = let (c, p, q) = came f e in (f, c, p, is-unheld q)

  -- ---- 26 and 27: behind the last 45

  -- the bytes before m are the branch from byte 0
  module _ (f : FramedPaper b paper) where
    done_first : {m : ℕ} → walk_of b paper ≡ done m → (m ≤ from) × Branch b k start (take m paper)
    done_first {m} e =
        ((done-between b k paper from _ _ _ _ e).1, rw (sub-zero m) at (done-branch b k paper from (inside f) _ _ _ _ e))

    first_done : {m : ℕ} → m ≤ from → Branch b k start (take m paper) → walk_of b paper ≡ done m
    first_done {m} h p =
        part-done b k paper from (inside f) 0 m (omega arith) h (rw (sub-zero m) p) (suc from) (omega arith)

  -- 26: none of these, and the branch from byte 0 ends before the witness; at the first byte behind it
  pub refused-gap : (at : ℕ) → (check_of book paper ≡ refused_at 26 at)
      ↔ (GoodBook book b × (FramedPaper b paper × Branch b k start (take at paper) × (at < from)))
  refused-gap at = exactly (omega arith) there (λ (f, p, h). at_gap f (first_done f (omega arith) p) (λ e. omega arith))
    where
      there : PaperRow b paper (refused_at 26 at) → FramedPaper b paper × Branch b k start (take at paper) × (at < from)
      there (at_gap f e n) = let (h, p) = done_first f e in (f, p, omega arith)

  -- 27: none of these, so that the steps are one branch up to the witness, and the witness is wrong, or there is one where no reading is
  -- claimed
  pub refused-witness : (at : ℕ) → (check_of book paper ≡ refused_at 27 at)
      ↔ (GoodBook book b × (FramedPaper b paper × Branch b k start (take from paper) × UngroundedAt b paper from (witness_bytes paper) k at))
  refused-witness at = exactly (omega arith) there
      (λ (f, p, w). at-witness f (first_done f (omega arith) p) (wrong-grounds b paper from (count_of paper) (listed f) k w))
    where
      listed : FramedPaper b paper → from + count_of paper ≤ length paper
      listed f = let t = f.trailer in omega arith

      there : PaperRow b paper (refused_at 27 at)
          → FramedPaper b paper × Branch b k start (take from paper) × UngroundedAt b paper from (witness_bytes paper) k at
      there (at-witness f e w) =
          let (h, p) = done_first f e in (f, p, grounds-wrong b paper from (count_of paper) (listed f) k w)
