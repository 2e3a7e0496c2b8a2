-- What checking a paper answers, row by row: each answer with what the tests before it found, both ways. A chain of the laws of choice for
-- each row, and the rows leave no case out. Document 01, "Numbers given back", 20 to 27.
use mathlib.Core.Path.{◌≡◌, refl, sym, ◌∙◌, ap, subst}
use mathlib.Core.Logic.{⊎_elim}
use mathlib.Core.List.{List}
use Prim.Native.Nat.{ℕ, suc, ◌-◌}
use native.Mathlib.Omega.{arith}
use lib.ListN.{length}
use Rattle.meaning.specs.declared.kind.Claim.{Claim}
use Rattle.meaning.specs.Books.{Rule, Book}
use Rattle.meaning.specs.Colours.{start}
use Rattle.meaning.specs.Told.{Told, success, refused_at}
use Rattle.meaning.proofs.Choice.{b-yes, b-either, lt_no, lt-either, eq_yes, eq_no, eq-either}
use Rattle.meaning.proofs.Tests.{true-and-false}
use Rattle.book.specs.Format.{BookRead, good, bad, read_of, book_of, book_in}
use Rattle.book.specs.Rows.{GoodBook}
use Rattle.book.proofs.Refusals.{good-read, read-good}
use Rattle.checker.specs.Branches.{Walked, done, wrong_at, branch_of}
use Rattle.checker.specs.Witness.{Check, fine, wrong, grounds_verdict}
use Rattle.checker.specs.Check.{witness_told, branch_told, steps_told, trailer_told, marked_told, paper_of, check_read, check_of}
use Rattle.checker.specs.Rows.{count_of, start_of, claim_of, LengthGood, MarkGood, TrailerGood, AtomGood, FramedPaper}
use Rattle.checker.proofs.Marked.{marked_as, claim-either, mark-tells, mark-either, no-mark}
use Rattle.checker.proofs.Grounds.{stated-good, good-stated}
use Rattle.checker.proofs.Branches.{refused-between}

-- the branch from byte 0
abbrev pub walk_of : Book → List ℕ → Walked
walk_of b s = branch_of (suc (start_of s)) b (claim_of s) s (start_of s) 0 start

pub data PaperRow (b : Book) (s : List ℕ) : Told Claim → Type 0 where
  at_length : ¬ LengthGood s → PaperRow b s (refused_at 20 0)
  at_mark : LengthGood s → ¬ MarkGood s → PaperRow b s (refused_at 21 (length s - 2))
  at-trailer : LengthGood s → MarkGood s → ¬ TrailerGood s → PaperRow b s (refused_at 22 (length s - 4))
  at-atom : LengthGood s → MarkGood s → TrailerGood s → ¬ AtomGood b s → PaperRow b s (refused_at 23 (length s - 6))
  at-form : {at : ℕ} → FramedPaper b s → walk_of b s ≡ wrong_at 24 at → PaperRow b s (refused_at 24 at)
  at-step : {at : ℕ} → FramedPaper b s → walk_of b s ≡ wrong_at 25 at → PaperRow b s (refused_at 25 at)
  at_gap : {at : ℕ} → FramedPaper b s → walk_of b s ≡ done at → ¬ (at ≡ start_of s) → PaperRow b s (refused_at 26 at)
  at-witness : {at : ℕ} → FramedPaper b s → walk_of b s ≡ done (start_of s) → grounds_verdict (claim_of s) b s (start_of s) (count_of s) ≡ wrong at
      → PaperRow b s (refused_at 27 at)
  nowhere : FramedPaper b s → walk_of b s ≡ done (start_of s) → grounds_verdict (claim_of s) b s (start_of s) (count_of s) ≡ fine
      → PaperRow b s (success (claim_of s))

module _ (b : Book) (s : List ℕ) where
  -- ---- every answer has its row

  witness-row : FramedPaper b s → walk_of b s ≡ done (start_of s) → (c : Check) → grounds_verdict (claim_of s) b s (start_of s) (count_of s) ≡ c
      → PaperRow b s (witness_told (claim_of s) c)
  unfolding witness_told
  witness-row f e fine w = nowhere f e w
  witness-row f e (wrong at) w = at-witness f e w

  walk-row : FramedPaper b s → (w : Walked) → walk_of b s ≡ w → PaperRow b s (branch_told b (claim_of s) s (count_of s) (start_of s) w)
  unfolding branch_told
  walk-row f (done at) e =
      eq-either (PaperRow b s) _ _ _ _ (λ p. witness-row f (rw p at e) _ refl) (λ n. at_gap f e n)
  walk-row f (wrong_at i at) e =
      ⊎_elim (λ (p : i ≡ 24). rw p (at-form f (rw p at e))) (λ (p : i ≡ 25). rw p (at-step f (rw p at e)))
      (refused-between b (claim_of s) s (start_of s) _ 0 start (omega arith) e).number

  -- what is told by the mark is told by the claim
  claim-told : marked_told b s (marked_as (claim_of s)) ≡ trailer_told b (claim_of s) s (count_of s) (start_of s)
  unfolding marked_told marked_as
  claim-told = claim-either s (λ k. marked_told b s (marked_as k) ≡ trailer_told b k s (count_of s) (start_of s)) refl refl

  pub paper-row : PaperRow b s (paper_of b s)
  unfolding paper_of marked_told trailer_told steps_told
  paper-row =
      lt-either P _ _ _ _ (λ h. at_length (λ l. omega (arith, l.at_least)))
      λ h. lt-either P _ _ _ _ (λ k. at_length (λ l. omega (arith, l.at_most)))
      λ k. let size : LengthGood s = record { at_least = h; at_most = k } in
      mark-either s (λ m. P (marked_told b s m)) (λ m. subst P (sym claim-told) (marked size m)) (at_mark size)
    where
      P : Told Claim → Type 0
      P = PaperRow b s

      marked : LengthGood s → MarkGood s → P (trailer_told b (claim_of s) s (count_of s) (start_of s))
      marked size mark =
          eq-either P _ _ _ _
          (λ t. b-either P _ _ _
          (λ a. walk-row (record { size = size; mark = mark; trailer = t; atom = stated-good b _ (claim_of s) a }) _ refl)
          (λ a. at-atom size mark t (λ h. true-and-false (good-stated b _ (claim_of s) h) a)))
          (at-trailer size mark)

  -- ---- and a row's own tests give its answer

  marked-told : LengthGood s → MarkGood s → paper_of b s ≡ trailer_told b (claim_of s) s (count_of s) (start_of s)
  unfolding paper_of
  marked-told l m = lt_no _ _ _ _ l.at_least ∙ lt_no _ _ _ _ l.at_most ∙ ap (marked_told b s) (mark-tells s m) ∙ claim-told

  framed-told : FramedPaper b s → {w : Walked} → walk_of b s ≡ w → paper_of b s ≡ branch_told b (claim_of s) s (count_of s) (start_of s) w
  unfolding trailer_told steps_told
  framed-told f e =
      marked-told f.size f.mark ∙ eq_yes _ _ _ _ f.trailer ∙ b-yes _ _ _ (good-stated b _ (claim_of s) f.atom) ∙ rw e

  pub row_told : {x : Told Claim} → PaperRow b s x → paper_of b s ≡ x
  unfolding paper_of marked_told trailer_told branch_told witness_told
  row_told (at_length m) =
      lt-either (λ x. x ≡ refused_at 20 0) _ _ _ _ (λ _. refl) λ h. lt-either (λ x. x ≡ refused_at 20 0) _ _ _ _ (λ _. refl)
      λ k. absurd (m (record { at_least = h; at_most = k }))
  row_told (at_mark l m) = lt_no _ _ _ _ l.at_least ∙ lt_no _ _ _ _ l.at_most ∙ ap (marked_told b s) (no-mark s m)
  row_told (at-trailer l m t) = marked-told l m ∙ eq_no _ _ _ _ t
  row_told (at-atom l m t a) =
      marked-told l m ∙ eq_yes _ _ _ _ t
      ∙ b-either (λ x. x ≡ refused_at 23 (length s - 6)) _ _ _ (λ h. absurd (a (stated-good b _ (claim_of s) h))) (λ _. refl)
  row_told (at-form f e) = framed-told f e
  row_told (at-step f e) = framed-told f e
  row_told (at_gap f e n) = framed-told f e ∙ eq_no _ _ _ _ n
  row_told (at-witness f e w) = framed-told f e ∙ eq_yes _ _ _ _ refl ∙ rw w
  row_told (nowhere f e w) = framed-told f e ∙ eq_yes _ _ _ _ refl ∙ rw w

  pub row_of : {x : Told Claim} → paper_of b s ≡ x → PaperRow b s x
  row_of e = subst (PaperRow b s) e paper-row

-- ---- the book is refused, or the paper is checked

pub data CheckRow (book paper : List ℕ) : Told Claim → Type 0 where
  at-book : {i at : ℕ} → read_of book ≡ bad i at → CheckRow book paper (refused_at i at)
  at-paper : {x : Told Claim} → GoodBook book (book_in book) → PaperRow (book_in book) paper x → CheckRow book paper x

module _ (book paper : List ℕ) where
  checks-paper : {n k index : ℕ} {l : List Rule} → read_of book ≡ good n k index l → check_of book paper ≡ paper_of (book_in book) paper
  unfolding check_of book_in check_read book_of
  checks-paper e = rw e

  pub row-checked : {x : Told Claim} → CheckRow book paper x → check_of book paper ≡ x
  unfolding check_of check_read
  row-checked (at-book e) = rw e
  row-checked (at-paper g r) = checks-paper (good-read book g) ∙ row_told (book_in book) paper r

  pub checked-row : {x : Told Claim} → check_of book paper ≡ x → CheckRow book paper x
  checked-row e = subst (CheckRow book paper) e (by_read (read_of book) refl)
    where
      by_read : (x : BookRead) → read_of book ≡ x → CheckRow book paper (check_of book paper)
      by_read (good n k index l) r = at-paper (read-good book r) (row_of (book_in book) paper (sym (checks-paper r)))
      by_read (bad i at) r = let c : CheckRow book paper (refused_at i at) = at-book r in rw (row-checked c) c
