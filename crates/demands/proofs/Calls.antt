-- Calls of good books: our answers are those of what the bytes say, the book keeps the format's limits, and there is one list of all
-- readings and one number of tries of each walk, so that demand 2 says something of every call. From the laws of book, walk and writer.
use mathlib.Core.Path.{◌≡◌, sym, ◌∙◌}
use mathlib.Core.Logic.{◌↔◌}
use mathlib.Core.List.{List}
use Prim.Native.Nat.{ℕ}
use native.Mathlib.Omega.{arith}
use Rattle.meaning.specs.declared.AtomNo.{AtomNo}
use Rattle.meaning.specs.Books.{Atoms, Book}
use Rattle.meaning.specs.declared.kind.Claim.{Claim}
use Rattle.book.specs.Format.{book_of}
use Rattle.book.specs.Rows.{Bytes}
use Rattle.book.specs.Writing.{Fits}
use Rattle.book.proofs.Shapes.{good-fits}
use Rattle.meaning.specs.Written.{nothing}
use Rattle.walk.specs.Events.{Event, events}
use Rattle.walk.specs.Readings.{readings, AllReadings}
use Rattle.walk.specs.Tries.{Needs}
use Rattle.walk.specs.Find.{find_along, find_by}
use Rattle.walk.proofs.Readings.{readings-all}
use Rattle.walk.proofs.Order.{readings-only}
use Rattle.walk.proofs.Needs.{needs-some, needs-one}
use Rattle.walk.proofs.Demand.{find-good-book}
use Rattle.writer.specs.PaperNeeds.{PaperNeeds}
use Rattle.writer.specs.Write.{write_in, write_of}
use Rattle.writer.proofs.PaperNeeds.{paper-needs-some, paper-needs-one}
use Rattle.writer.proofs.Stages.{write-good-book}
use Rattle.writer.proofs.Ways.{Nameable, fits-nameable}
use Rattle.demands.specs.Damaged.{GoodBook}
use Rattle.demands.specs.Demand2.{Call, Asking}
use Rattle.demands.proofs.Damaged.{good-read, good-is}

-- an equation told of one of two equal values is told of the other
pub along : {A : Type 0} {x y : A} {P : Type 0} (z : A) → x ≡ y → (y ≡ z) ↔ P → (x ≡ z) ↔ P
along z e (f, g) = (λ p. f (sym e ∙ p), λ p. e ∙ g p)

module _ {book : List ℕ} {b : Book} (g : GoodBook book b) where
  pub found_as : (walk : Book → List Event) (k limit : ℕ) (answer : List ℕ)
      → find_by walk book k limit answer ≡ find_along b (walk b) k limit answer
  found_as walk k limit answer = rw (good-is book g) at (find-good-book walk book k limit answer _ _ _ _ (good-read book g))

  pub written_as : (k : Claim) (limit : ℕ) (buffer : List ℕ) → write_of book k limit buffer ≡ write_in b k limit buffer
  written_as k limit buffer = write-good-book book k limit buffer _ _ _ _ (good-read book g)

  module _ (bytes : Bytes book) where
    pub book-fits : Fits b
    unfolding book_of
    book-fits = rw (good-read book g) at (good-fits book _ _ _ _ bytes (good-read book g))

    pub readings-there : AllReadings b (readings b)
    readings-there = readings-all b book-fits.rules

    pub readings-same : {l : List Atoms} → AllReadings b l → l ≡ readings b
    readings-same all = readings-only b _ _ all readings-there

-- so a good call has its list and its number of tries
pub call-counts : {book : List ℕ} {b : Book} {k : ℕ} {answer : List ℕ} → Call book b k answer
    → (l : List Atoms) × AllReadings b l × (n : ℕ) × Needs b (events b nothing) k n
call-counts {b = b} {k = k} c =
    let (n, needs) = needs-some b (events b nothing) k c.good-number in (readings b, readings-there c.good_book c.bytes, n, needs)

-- and one only; a call for a paper has two numbers of tries, of the first walk and of the paper's, and one only of each
module _ (b : Book) where
  pub call-counts-one : {k n i : ℕ} {l m : List Atoms} → AllReadings b l → AllReadings b m → Needs b (events b nothing) k n → Needs b (events b nothing) k i
      → (l ≡ m) × (n ≡ i)
  call-counts-one p q u v = (readings-only b _ _ p q, needs-one b u v)

  module _ (k : Claim) where
    pub asking-counts : (n : ℕ) × Needs b (events b nothing) 1 n × (m : ℕ) × PaperNeeds b k m
    asking-counts =
        let (n, needs) = needs-some b (events b nothing) 1 (omega arith) in let (m, paper) = paper-needs-some b k in (n, needs, m, paper)

    pub asking-counts-one : {n i m j : ℕ} → Needs b (events b nothing) 1 n → Needs b (events b nothing) 1 i → PaperNeeds b k m → PaperNeeds b k j → (n ≡ i) × (m ≡ j)
    asking-counts-one p q u v = (needs-one b p q, paper-needs-one b k u v)

pub nameable : {book : List ℕ} {b : Book} {a : AtomNo} → Asking book b a → Nameable b a
nameable {b = b} {a = a} c = fits-nameable b a (book-fits c.good_book c.bytes) c.good-number
