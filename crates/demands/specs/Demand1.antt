-- Demand 1. "It takes every book, paper and number it is handed and comes to an end. A damaged one is refused by number and, inside a book
-- or paper, by place; the caller need not have looked first, and a refusal changes no byte of any buffer lent to it."
--
-- An engine is a function of what it is handed, so it answers every call; that every call comes to an end is the toolchain's own check of
-- every function. Each number is given exactly where its row of document 01's table holds.
use Rattle.std.specs.Prelude.{◌≡◌, List, ◌⊎◌, ◌↔◌, ℕ, ◌≤◌, ◌<◌, length}
use Rattle.meaning.specs.declared.AtomNo.{AtomNo}
use Rattle.meaning.specs.declared.kind.Kind.{Kind}
use Rattle.meaning.specs.Books.{Book}
use Rattle.meaning.specs.Told.{refused_at, refused}
use Rattle.walk.specs.Find.{set}
use Rattle.writer.specs.Write.{paper}
use Rattle.demands.specs.Engine.{Engine}
use Rattle.demands.specs.Damaged.{GoodBook, DamagedBook, DamagedPaper}

pub record Demand1 (e : Engine) : Type 0 where
  -- a damaged book, whatever else is handed over with it; a damaged paper
  pub find-book : (book : List ℕ) (k limit : ℕ) (answer : List ℕ) (i at : ℕ)
      → ((e.find book k limit answer).told ≡ refused_at i at) ↔ DamagedBook book i at
  pub write-book : (q : Kind) (book : List ℕ) (a : AtomNo) (limit : ℕ) (buffer : List ℕ) (i at : ℕ)
      → ((e.write q book a limit buffer).told ≡ refused_at i at) ↔ DamagedBook book i at
  pub check-bytes : (book s : List ℕ) (i at : ℕ)
      → (e.check book s ≡ refused_at i at) ↔ (DamagedBook book i at ⊎ ((b : Book) × GoodBook book b × DamagedPaper b s i at))
  -- numbers that cannot be: k is 0 (15), an atom that the book does not have (13); a buffer too short (8)
  pub find-number : (book : List ℕ) (k limit : ℕ) (answer : List ℕ)
      → ((e.find book k limit answer).told ≡ refused 15) ↔ ((b : Book) × GoodBook book b × (k ≡ 0))
  pub find-room : (book : List ℕ) (k limit : ℕ) (answer : List ℕ)
      → ((e.find book k limit answer).told ≡ refused 8) ↔ ((b : Book) × GoodBook book b × (0 < k) × (length answer < b.atoms))
  pub write-atom : (q : Kind) (book : List ℕ) (a : AtomNo) (limit : ℕ) (buffer : List ℕ)
      → ((e.write q book a limit buffer).told ≡ refused 13) ↔ ((b : Book) × GoodBook book b × (b.atoms ≤ a.0))
  -- whatever is told but success, every lent byte is as it was
  pub find-keeps : (book : List ℕ) (k limit : ℕ) (answer : List ℕ)
      → ((t : ℕ) → (e.find book k limit answer).told ≡ set t → ⊥) → (e.find book k limit answer).buffer ≡ answer
  pub write_keeps : (q : Kind) (book : List ℕ) (a : AtomNo) (limit : ℕ) (buffer : List ℕ)
      → ((t n : ℕ) → (e.write q book a limit buffer).told ≡ paper t n → ⊥) → (e.write q book a limit buffer).buffer ≡ buffer
