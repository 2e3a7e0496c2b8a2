-- Books and papers by the rows of the table (specs/Damaged): reading refuses a book exactly where a row of 1 to 7 holds, checking a paper
-- exactly where a row of 20 to 27 does, and what no row holds of is good. From the laws of the numbers of book and checker.
use mathlib.Core.Path.{◌≡◌, refl, sym, ◌∙◌}
use mathlib.Core.Logic.{◌⊎◌, inl, inr, ⊎_elim, ◌↔◌}
use mathlib.Core.List.{List}
use Prim.Native.Nat.{ℕ, ◌≤◌}
use native.Mathlib.Omega.{arith}
use lib.ListN.{length}
use Rattle.meaning.specs.Books.{Book}
use Rattle.meaning.specs.declared.kind.Claim.{Claim}
use Rattle.meaning.specs.Paper.{Keeps, paper_bytes}
use Rattle.meaning.specs.Told.{Told, success, refused_with, refused_at, refused}
use Rattle.book.specs.Format.{BookRead, good, bad, read_of, book_in}
use Rattle.book.specs.Rows.{Bytes}
use Rattle.book.proofs.Records.{at_entry, at-record, at-atom, at-order}
use Rattle.book.proofs.Refusals.{BookRow, row_of, in-records, at_length as no_length, at_mark as no-mark, at-trailer as no-trailer}
use Rattle.book.proofs.Refusals.{refused-length, refused-mark, refused-trailer, refused-entry, refused-record, refused-atom, refused-order}
use Rattle.book.proofs.Refusals.{accepted}
pub use Rattle.book.proofs.Refusals.{good-read, good-is}
use Rattle.checker.specs.Check.{check_of}
use Rattle.checker.proofs.Rows.{CheckRow, at-book, at-paper, checked-row, row-checked}
use Rattle.checker.proofs.Rows.{at_length, at_mark, at-trailer, at-form, at-step, at_gap, at-witness}
use Rattle.checker.proofs.Rows.{at-atom as at-claim}
use Rattle.checker.proofs.Refusals.{refused-form, refused-step, refused-gap, refused-witness}
use Rattle.checker.proofs.Refusals.{refused-length as paper-length, refused-mark as paper-mark, refused-trailer as paper-trailer}
use Rattle.checker.proofs.Refusals.{refused-atom as paper-atom}
use Rattle.checker.proofs.Accepted.{check-exact}
use Rattle.demands.specs.Damaged.{GoodBook, DamagedBook, row-1, row-2, row-3, row-4, row-5, row-6, row-7}
use Rattle.demands.specs.Damaged.{DamagedPaper, row-20, row-21, row-22, row-23, row-24, row-25, row-26, row-27}

-- ---- books

module _ (s : List ℕ) where
  pub bad-damaged : {i at : ℕ} → read_of s ≡ bad i at → DamagedBook s i at
  bad-damaged e = there (row_of s e)
    where
      there : {i at : ℕ} → BookRow s (bad i at) → DamagedBook s i at
      there (no_length l) = row-1 l
      there (no-mark l m) = row-2 l m
      there (no-trailer l m t) = row-3 l m t
      there (in-records f (at_entry w)) = row-4 f w
      there (in-records f (at-record w)) = row-5 f w
      there (in-records f (at-atom w)) = row-6 f w
      there (in-records f (at-order w)) = row-7 f w

  pub damaged-bad : {i at : ℕ} → DamagedBook s i at → read_of s ≡ bad i at
  damaged-bad (row-1 l) = (refused-length s 0).1 (l, refl)
  damaged-bad (row-2 l m) = (refused-mark s _).1 (l, m, refl)
  damaged-bad (row-3 l m t) = (refused-trailer s _).1 (l, m, t, refl)
  damaged-bad (row-4 f w) = (refused-entry s _).1 (f, w)
  damaged-bad (row-5 f w) = (refused-record s _).1 (f, w)
  damaged-bad (row-6 f w) = (refused-atom s _).1 (f, w)
  damaged-bad (row-7 f w) = (refused-order s _).1 (f, w)

  -- every list of bytes is a good book or a damaged one
  pub every-book : ((b : Book) × GoodBook s b) ⊎ ((i : ℕ) × (at : ℕ) × DamagedBook s i at)
  every-book = go (read_of s) refl
    where
      go : (x : BookRead) → read_of s ≡ x → ((b : Book) × GoodBook s b) ⊎ ((i : ℕ) × (at : ℕ) × DamagedBook s i at)
      go (good m r i l) e =
          inl (record { atoms = m; rules = l }, record { rule-count = r; index = i; bytes = (accepted s m r i l).0 e })
      go (bad i at) e = inr (i, at, bad-damaged e)

  -- and never both
  pub not-both : {A : Type 0} {b : Book} {i at : ℕ} → GoodBook s b → DamagedBook s i at → A
  not-both g d =
      let p = good-read s g in let q = damaged-bad d in let z : ◌≡◌ {A = ℕ} 0 1 = cc in absurd (omega arith)

-- ---- papers

module _ (book paper : List ℕ) where
  Refuses : ℕ → ℕ → Type 0
  Refuses i at = DamagedBook book i at ⊎ ((b : Book) × GoodBook book b × DamagedPaper b paper i at)

  refused-row : {i at : ℕ} → check_of book paper ≡ refused_at i at → CheckRow book paper (refused_at i at) → Refuses i at
  unfolding Refuses
  refused-row e (at-book p) = inl (bad-damaged book p)
  refused-row e (at-paper g (at_length l)) = inr (book_in book, g, row-20 l)
  refused-row e (at-paper g (at_mark l m)) = inr (book_in book, g, row-21 l m)
  refused-row e (at-paper g (at-trailer l m t)) = inr (book_in book, g, row-22 l m t)
  refused-row e (at-paper g (at-claim l m t a)) = inr (book_in book, g, row-23 l m t a)
  refused-row e (at-paper g (at-form f w)) =
      let (framed, c, p, m) = ((refused-form book paper _).0 e).1 in inr (book_in book, g, row-24 framed p m)
  refused-row e (at-paper g (at-step f w)) =
      let (framed, c, p, m) = ((refused-step book paper _).0 e).1 in inr (book_in book, g, row-25 framed p m)
  refused-row e (at-paper g (at_gap f w m)) =
      let (framed, p, l) = ((refused-gap book paper _).0 e).1 in inr (book_in book, g, row-26 framed p l)
  refused-row e (at-paper g (at-witness f w v)) =
      let (framed, p, l) = ((refused-witness book paper _).0 e).1 in inr (book_in book, g, row-27 framed p l)

  damaged-row : {i at : ℕ} → GoodBook book (book_in book) → DamagedPaper (book_in book) paper i at → check_of book paper ≡ refused_at i at
  damaged-row g (row-20 l) = (paper-length book paper 0).1 (g, (l, refl))
  damaged-row g (row-21 l m) = (paper-mark book paper _).1 (g, (l, m, refl))
  damaged-row g (row-22 l m t) = (paper-trailer book paper _).1 (g, (l, m, t, refl))
  damaged-row g (row-23 l m t a) = (paper-atom book paper _).1 (g, (l, m, t, a, refl))
  damaged-row g (row-24 f p m) = (refused-form book paper _).1 (g, (f, _, p, m))
  damaged-row g (row-25 f p u) = (refused-step book paper _).1 (g, (f, _, p, u))
  damaged-row g (row-26 f p h) = (refused-gap book paper _).1 (g, (f, p, h))
  damaged-row g (row-27 f p w) = (refused-witness book paper _).1 (g, (f, p, w))

  -- checking refuses exactly the damaged: the book by its row, then the paper by its row
  pub check-refused : (i at : ℕ)
      → (check_of book paper ≡ refused_at i at) ↔ (DamagedBook book i at ⊎ ((b : Book) × GoodBook book b × DamagedPaper b paper i at))
  unfolding Refuses
  check-refused i at = (
    λ e. refused-row e (checked-row book paper e),
    λ d. ⊎_elim (λ p. row-checked book paper (at-book (damaged-bad book p)))
        (λ (b, g, p). damaged-row (rw (good-is book g) g) (rw (← good-is book g) at p)) d,
  )

  -- every refusal of checking has a place
  not-valued : {A : Type 0} {i : ℕ} {l : List ℕ} → CheckRow book paper (refused_with i l) → A
  not-valued (at-paper g r) = elim r [ ]

  not-bare : {A : Type 0} {i : ℕ} → CheckRow book paper (refused i) → A
  not-bare (at-paper g r) = elim r [ ]

  -- every paper for a good book keeps the printed rules, at no more than 60,000 bytes, or is damaged
  pub every-paper : Bytes paper → {b : Book} → GoodBook book b
      → ((k : Claim) × Keeps b k paper × (length paper ≤ paper_bytes)) ⊎ ((i : ℕ) × (at : ℕ) × DamagedPaper b paper i at)
  every-paper bytes {b} g = go (check_of book paper) refl
    where
      go : (t : Told Claim) → check_of book paper ≡ t
          → ((k : Claim) × Keeps b k paper × (length paper ≤ paper_bytes)) ⊎ ((i : ℕ) × (at : ℕ) × DamagedPaper b paper i at)
      go (success k) e = let (h, p, l) = (check-exact book paper bytes k).0 e in inl (k, rw (good-is book g) at p, l)
      go (refused_at i at) e = ⊎_elim (not-both book g)
          (λ (c, h, d). inr (i, at, rw (sym (good-is book h) ∙ good-is book g) at d)) ((check-refused i at).0 e)
      go (refused_with i l) e = not-valued (checked-row book paper e)
      go (refused i) e = not-bare (checked-row book paper e)
