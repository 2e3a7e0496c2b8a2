-- "reading what was written gives the same book, byte for byte" (document 02, request 12): whatever export wrote, restore gives the book's own
-- bytes back, where there is room for them. And export does write, wherever the book is good and the buffer has 44,382 bytes.
use mathlib.Core.Path.{◌≡◌, refl, ◌∙◌, ap}
use mathlib.Core.List.{List}
use Prim.Native.Nat.{ℕ, ◌≤◌}
use native.Mathlib.Omega.{arith}
use lib.ListN.{length, take}
use lib.Seq.{take-append_seam}
use Rattle.std.specs.Prelude.{Result, Ok}
use Rattle.meaning.specs.Books.{Rule, Book}
use Rattle.meaning.specs.Told.{Told, success, refused, Answered}
use Rattle.meaning.proofs.Tests.{apart}
use Rattle.meaning.proofs.Choice.{lt_no, lt-either}
use Rattle.book.specs.Rows.{Bytes}
use Rattle.book.specs.Format.{BookRead, good, bad, read_of, book_of, book_in}
use Rattle.book.specs.Writing.{Fits}
use Rattle.book.proofs.Shapes.{good-fits}
use Rattle.book.proofs.Writing.{write_read}
use Rattle.aspif.specs.declared.answer.Unexported.{Unexported}
use Rattle.aspif.specs.declared.answer.Unrestored.{Unrestored}
use Rattle.aspif.specs.Text.{text_of, Loose}
use Rattle.aspif.specs.Handing.{at_front, hand_text, export_read, export_of, Restores}
use Rattle.aspif.proofs.Short.{text-short}
use Rattle.aspif.proofs.Told.{ExportPromise, exported-one}
use Rattle.aspif.proofs.Rows.{restored-fits}

-- a book that fits is one with the limits of size left out
pub fits-loose : (b : Book) → Fits b → Loose b
fits-loose b f r m =
    let g = f.each r m in
    record {
      head = g.head;
      pos = record { ascends = g.pos.ascends; below = g.pos.below };
      neg = record { ascends = g.neg.ascends; below = g.neg.below };
    }

-- ---- what export wrote is the text of the good book

-- the text stands in front
hand-front : (t out after : List ℕ) (m : ℕ) → ◌≡◌ {A = Answered ℕ} (record { told = success m; buffer = after }) (hand_text t out) → take m after ≡ t
unfolding hand_text
hand-front t out after m =
    lt-either (λ z. ◌≡◌ {A = Answered ℕ} (record { told = success m; buffer = after }) z → take m after ≡ t) (length out) (length t)
    (record { told = refused 33; buffer = out }) (record { told = success (length t); buffer = at_front t out })
    (λ h e. let f = ap (λ (a : Answered ℕ). a.told) e in let z : ◌≡◌ {A = ℕ} 0 1 = cc in apart z)
    (λ h e. let f = ap (λ (a : Answered ℕ). a.told) e in
    let g : m ≡ length t = cc in
    let k : after ≡ at_front t out = ap (λ (a : Answered ℕ). a.buffer) e in
    rw (k, g) (take-append_seam t _))

pub record Wrote (s : List ℕ) (m : ℕ) (after : List ℕ) : Type 0 where
  pub atoms : ℕ
  pub rules : ℕ
  pub index : ℕ
  pub list : List Rule
  pub read : read_of s ≡ good atoms rules index list
  pub front : take m after ≡ text_of (book_in s)

module _ (s out after : List ℕ) (m : ℕ) where
  book-front : (n k index : ℕ) (l : List Rule) → read_of s ≡ good n k index l
      → ◌≡◌ {A = Answered ℕ} (record { told = success m; buffer = after }) (export_read (good n k index l) out) → take m after ≡ text_of (book_in s)
  unfolding export_read book_in book_of
  book-front n k index l g e = hand-front _ out after m e ∙ rw g

  bad-wrote : (i at : ℕ) → ◌≡◌ {A = Answered ℕ} (record { told = success m; buffer = after }) (export_read (bad i at) out) → Wrote s m after
  unfolding export_read
  bad-wrote i at e = let f = ap (λ (a : Answered ℕ). a.told) e in let z : ◌≡◌ {A = ℕ} 0 1 = cc in apart z

export-wrote : (s out after : List ℕ) (m : ℕ) → ExportPromise s out (Ok m) after → Wrote s m after
unfolding export_of
export-wrote s out after m e = by_read (read_of s) refl e
  where
    by_read : (y : BookRead) → read_of s ≡ y → ◌≡◌ {A = Answered ℕ} (record { told = success m; buffer = after }) (export_read y out) → Wrote s m after
    by_read (good n k index l) g e = record {
      atoms = n;
      rules = k;
      index = index;
      list = l;
      read = g;
      front = book-front s out after m n k index l g e;
    }
    by_read (bad i at) g e = bad-wrote s out after m i at e

-- ---- and back

read_fits : (s : List ℕ) → Bytes s → {n k index : ℕ} {l : List Rule} → read_of s ≡ good n k index l → Fits (book_in s)
unfolding book_in
read_fits s bytes e = good-fits s _ _ _ _ bytes e

pub round_trip : (s out : List ℕ) → Bytes s → {after : List ℕ} {m : ℕ} → ExportPromise s out (Ok m) after
    → {r : Result ℕ Unrestored} {room book : List ℕ} → Restores (take m after) room r book → length s ≤ length room
    → (r ≡ Ok (length s)) × (book ≡ at_front s room)
round_trip s out bytes {after} {m} e {r} {room} {book} p h =
    let w = export-wrote s out after m e in
    let f : Fits (book_in s) = read_fits s bytes w.read in
    let g = write_read s _ _ _ _ bytes w.read in
    rw g at (restored-fits (record { loose = fits-loose (book_in s) f; text = w.front }) p f (rw g h))

-- ---- there is something to read back

pub export-writes : (s out : List ℕ) → Bytes s → {n k index : ℕ} {l : List Rule} → read_of s ≡ good n k index l → 44382 ≤ length out
    → {r : Result ℕ Unexported} {after : List ℕ} → ExportPromise s out r after → r ≡ Ok (length (text_of (book_in s)))
unfolding export_of export_read hand_text book_in book_of
export-writes s out bytes {n} {k} {index} {l} e h p =
    let f : Fits (record { atoms = n; rules = l }) = rw e at (read_fits s bytes e) in
    let q : ◌≡◌ {A = Answered ℕ} (export_of s out)
    (record { told = success (length (text_of (record { atoms = n; rules = l }))); buffer = at_front (text_of (record { atoms = n; rules = l })) out })
    = rw e (lt_no _ _ _ _ (omega (arith, text-short (record { atoms = n; rules = l }) f))) in
    let w : ◌≡◌ {A = Told ℕ} (success (length (text_of (record { atoms = n; rules = l })))) (success (length (text_of (book_in s)))) = rw e in
    exported-one _ (Ok (length (text_of (book_in s)))) (ap (λ (a : Answered ℕ). a.told) (p ∙ q) ∙ w)
