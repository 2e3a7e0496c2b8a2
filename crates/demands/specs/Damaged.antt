-- Good and damaged books, damaged papers. Document 01, "Numbers given back": each row of the table that has a place, as a condition on the
-- bytes alone; no row holds where an earlier one does.
--
--   GoodBook book b          (of book) nothing is wrong with the bytes, and b is what they say
--   DamagedBook book i at    row i of the table, 1 to 7, holds of the book, at the place `at`
--   DamagedPaper b s i at    row i of the table, 20 to 27, holds of the paper s for the book b, at the place `at`
use Rattle.std.specs.Prelude.{List, ℕ, ◌-◌, ◌<◌, length, take}
use Rattle.meaning.specs.Books.{Book}
use Rattle.meaning.specs.Colours.{Pair, start}
use Rattle.meaning.specs.Paper.{Branch}
use Rattle.book.specs.Rows.{LengthGood, MarkGood, TrailerGood, FramedBook, atom_count, rule_count, index_start}
use Rattle.book.specs.Rows.{EntryWrong, RecordWrong, BytesWrong}
pub use Rattle.book.specs.Rows.{GoodBook}
use Rattle.checker.specs.Rows.{LengthGood as PaperLengthGood, MarkGood as PaperMarkGood, TrailerGood as PaperTrailerGood, AtomGood}
use Rattle.checker.specs.Rows.{FramedPaper, claim_of, start_of, witness_bytes, Comes, Malformed, Unheld}
use Rattle.checker.specs.Places.{UngroundedAt}

-- "Order: the book first, with 1, 2, 3; then for each record 4, 5 and, byte by byte, 6 before 7; then the last end (4)."
pub data DamagedBook (s : List ℕ) : ℕ → ℕ → Type 0 where
  row-1 : ¬ LengthGood s → DamagedBook s 1 0
  row-2 : LengthGood s → ¬ MarkGood s → DamagedBook s 2 (length s - 2)
  row-3 : LengthGood s → MarkGood s → ¬ TrailerGood s → DamagedBook s 3 (length s - 4)
  row-4 : {at : ℕ} → FramedBook s → EntryWrong s (atom_count s) (rule_count s) (index_start s) at → DamagedBook s 4 at
  row-5 : {at : ℕ} → FramedBook s → RecordWrong s (atom_count s) (rule_count s) (index_start s) at → DamagedBook s 5 at
  row-6 : {at : ℕ} → FramedBook s → BytesWrong s (atom_count s) (rule_count s) (index_start s) 6 at → DamagedBook s 6 at
  row-7 : {at : ℕ} → FramedBook s → BytesWrong s (atom_count s) (rule_count s) (index_start s) 7 at → DamagedBook s 7 at

-- "then 20 to 23, then steps in order, 24 before 25, then 26, 27"
pub data DamagedPaper (b : Book) (s : List ℕ) : ℕ → ℕ → Type 0 where
  row-20 : ¬ PaperLengthGood s → DamagedPaper b s 20 0
  row-21 : PaperLengthGood s → ¬ PaperMarkGood s → DamagedPaper b s 21 (length s - 2)
  row-22 : PaperLengthGood s → PaperMarkGood s → ¬ PaperTrailerGood s → DamagedPaper b s 22 (length s - 4)
  row-23 : PaperLengthGood s → PaperMarkGood s → PaperTrailerGood s → ¬ AtomGood b s → DamagedPaper b s 23 (length s - 6)
  -- the steps in order come to the byte `at` with the pair c, and the step there is malformed; or its condition does not hold
  row-24 : {at : ℕ} {c : Pair} → FramedPaper b s → Comes b (claim_of s) s (start_of s) at c → Malformed b s (start_of s) at
      → DamagedPaper b s 24 at
  row-25 : {at : ℕ} {c : Pair} → FramedPaper b s → Comes b (claim_of s) s (start_of s) at c → Unheld b (claim_of s) s (start_of s) at c
      → DamagedPaper b s 25 at
  -- the steps end before the byte `at`, and that is not the witness
  row-26 : {at : ℕ} → FramedPaper b s → Branch b (claim_of s) start (take at s) → at < start_of s → DamagedPaper b s 26 at
  row-27 : {at : ℕ} → FramedPaper b s → Branch b (claim_of s) start (take (start_of s) s)
      → UngroundedAt b s (start_of s) (witness_bytes s) (claim_of s) at → DamagedPaper b s 27 at
