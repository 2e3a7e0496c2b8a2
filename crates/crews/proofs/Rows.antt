-- Which row of the table a call of join or log meets, said of the bytes of both books (document 02, request 9): "1 to 7 for the first and
-- then the second book, telling which; then 17 ...; then 19 ...; 9 comes after all of these". On a refusal and on 9 the buffer stays; what
-- is written is read as good and gives the joined book.
use mathlib.Core.Path.{◌≡◌, refl, ◌∙◌, ap}
use mathlib.Core.Logic.{◌↔◌}
use mathlib.Core.List.{List}
use Prim.Native.Nat.{ℕ}
use lib.ListN.{length}
use Rattle.meaning.specs.Books.{Rule, Book}
use Rattle.meaning.specs.Joined.{joined}
use Rattle.meaning.specs.Told.{Told, success, refused, Answered}
use Rattle.meaning.proofs.Tests.{apart}
use Rattle.book.specs.Format.{BookRead, good, bad, read_of}
use Rattle.book.specs.Rows.{GoodBook}
use Rattle.book.specs.Writing.{Fits}
use Rattle.book.proofs.Refusals.{accepted, good-read}
use Rattle.book.proofs.Joined.{joined-good}
use Rattle.crews.specs.Join.{of_book, only, joined_bytes, on_books, join_in, join_of}
use Rattle.crews.specs.Log.{Entry, log_in, log_of}
use Rattle.crews.specs.Rows.{OfGood, Together, TooMany, TooShort}
use Rattle.crews.proofs.Laying.{Leaves, join-leaves, log-leaves, leaves_kept, leaves-no-book}
use Rattle.crews.proofs.Laying.{join-many, join-room, log-many, log-room}

-- ---- two readings

good_book : (s : List ℕ) {n k index : ℕ} {l : List Rule} → read_of s ≡ good n k index l → GoodBook s (record { atoms = n; rules = l })
good_book s e = record { rule-count = _; index = _; bytes = (accepted s _ _ _ _).0 e }

-- the first book is refused; or it is good and the second is refused; or both are good
data BooksRow {S : Type 0} (s t out : List ℕ) (f : Book → Book → Answered S) : Answered S → Type 0 where
  first-bad : {i at : ℕ} → read_of s ≡ bad i at → BooksRow s t out f (only out (of_book 1 i at))
  second-bad : {b : Book} {i at : ℕ} → GoodBook s b → read_of t ≡ bad i at → BooksRow s t out f (only out (of_book 2 i at))
  both-good : {b c : Book} → GoodBook s b → GoodBook t c → BooksRow s t out f (f b c)

module _ {S : Type 0} (s t out : List ℕ) (f : Book → Book → Answered S) where
  abbrev answer : Answered S
  answer = on_books (read_of s) (read_of t) out f

  abbrev tell : Answered S → Told S
  tell a = a.told

  books-row : BooksRow s t out f answer
  unfolding on_books
  books-row = go (read_of s) (read_of t) refl refl
    where
      go : (x y : BookRead) → read_of s ≡ x → read_of t ≡ y → BooksRow s t out f (on_books x y out f)
      go (bad i at) y p q = first-bad p
      go (good n k index l) (bad i at) p q = second-bad (good_book s p) q
      go (good n k index l) (good m j start h) p q = both-good (good_book s p) (good_book t q)

  row-answer : {a : Answered S} → BooksRow s t out f a → answer ≡ a
  unfolding on_books
  row-answer (first-bad e) = rw e
  row-answer (second-bad g e) = rw (good-read s g, e)
  row-answer (both-good g h) = rw (good-read s g, good-read t h)

  pub on-good-books : {b c : Book} → GoodBook s b → GoodBook t c → answer ≡ f b c
  on-good-books g h = row-answer (both-good g h)

  -- what is told of two good books alone, and exactly where P holds of them
  told-good : (P : Book → Book → Type 0) (u : Told S) → ((which i at : ℕ) → of_book which i at ≡ u → ⊥)
      → ((b c : Book) → ((f b c).told ≡ u) ↔ P b c)
      → (answer.told ≡ u) ↔ OfGood s t P
  told-good P u n exactly = (there books-row, λ (b, c, g, h, p). ap tell (on-good-books g h) ∙ (exactly b c).1 p)
    where
      there : {a : Answered S} → BooksRow s t out f a → a.told ≡ u → OfGood s t P
      there (first-bad p) e = absurd (n _ _ _ e)
      there (second-bad g p) e = absurd (n _ _ _ e)
      there (both-good g h) e = (_, _, g, h, (exactly _ _).0 e)

  module _ (leaves : (b c : Book) → Leaves b c out (f b c)) where
    first-told : (i at : ℕ) → (answer.told ≡ of_book 1 i at) ↔ (read_of s ≡ bad i at)
    first-told i at = (there books-row, λ e. ap tell (row-answer (first-bad e)))
      where
        there : {a : Answered S} → BooksRow s t out f a → a.told ≡ of_book 1 i at → read_of s ≡ bad i at
        there (first-bad {i = j} {at = to} p) e = let u : j ≡ i = cc in let v : to ≡ at = cc in rw (u, v) at p
        there (second-bad g p) e = let z : ◌≡◌ {A = ℕ} 2 1 = cc in apart cc
        there (both-good g h) e = absurd (leaves-no-book _ _ out (leaves _ _) 1 i at e)

    second-told : (i at : ℕ) → (answer.told ≡ of_book 2 i at) ↔ ((b : Book) × GoodBook s b × (read_of t ≡ bad i at))
    second-told i at = (there books-row, λ (b, g, e). ap tell (row-answer (second-bad g e)))
      where
        there : {a : Answered S} → BooksRow s t out f a → a.told ≡ of_book 2 i at → (b : Book) × GoodBook s b × (read_of t ≡ bad i at)
        there (first-bad p) e = let z : ◌≡◌ {A = ℕ} 1 2 = cc in apart cc
        there (second-bad {b = b} {i = j} {at = to} g p) e = let u : j ≡ i = cc in let v : to ≡ at = cc in (b, g, rw (u, v) at p)
        there (both-good g h) e = absurd (leaves-no-book _ _ out (leaves _ _) 2 i at e)

    kept : ((v : S) → answer.told ≡ success v → ⊥) → answer.buffer ≡ out
    kept = there books-row
      where
        there : {a : Answered S} → BooksRow s t out f a → ((v : S) → a.told ≡ success v → ⊥) → a.buffer ≡ out
        there (first-bad p) n = refl
        there (second-bad g p) n = refl
        there (both-good g h) n = leaves_kept _ _ out (leaves _ _) n

-- ---- join

module _ (first second out : List ℕ) where
  pub join-first-refused : (i at : ℕ) → ((join_of first second out).told ≡ of_book 1 i at) ↔ (read_of first ≡ bad i at)
  join-first-refused = first-told first second out _ (λ b c. join-leaves b c out)

  pub join-second-refused : (i at : ℕ)
      → ((join_of first second out).told ≡ of_book 2 i at) ↔ ((b : Book) × GoodBook first b × (read_of second ≡ bad i at))
  join-second-refused = second-told first second out _ (λ b c. join-leaves b c out)

  pub join-17 : ((join_of first second out).told ≡ refused 17) ↔ OfGood first second TooMany
  join-17 = told-good first second out _ TooMany (refused 17) (λ which i at e. apart cc) (λ b c. join-many b c out)

  pub join-19 : ((join_of first second out).told ≡ refused 19)
      ↔ OfGood first second (λ b c. TooShort b c (length out))
  join-19 = told-good first second out _ (λ b c. TooShort b c (length out)) (refused 19) (λ which i at e. apart cc) (λ b c. join-room b c out)

  pub join-of-good : {b c : Book} → GoodBook first b → GoodBook second c → join_of first second out ≡ join_in b c out
  join-of-good = on-good-books first second out (λ b c. join_in b c out)

  pub join-keeps : ((n : ℕ) → (join_of first second out).told ≡ success n → ⊥) → (join_of first second out).buffer ≡ out
  join-keeps = kept first second out _ (λ b c. join-leaves b c out)

-- ---- log

module _ (first second : List ℕ) (limit other : ℕ) (out : List ℕ) where
  pub log-first-refused : (i at : ℕ) → ((log_of first second limit other out).told ≡ of_book 1 i at) ↔ (read_of first ≡ bad i at)
  log-first-refused = first-told first second out _ (λ b c. log-leaves b c limit other out)

  pub log-second-refused : (i at : ℕ)
      → ((log_of first second limit other out).told ≡ of_book 2 i at) ↔ ((b : Book) × GoodBook first b × (read_of second ≡ bad i at))
  log-second-refused = second-told first second out _ (λ b c. log-leaves b c limit other out)

  pub log-17 : ((log_of first second limit other out).told ≡ refused 17) ↔ OfGood first second TooMany
  log-17 = told-good first second out _ TooMany (refused 17) (λ which i at e. apart cc) (λ b c. log-many b c limit other out)

  pub log-19 : ((log_of first second limit other out).told ≡ refused 19)
      ↔ OfGood first second (λ b c. TooShort b c (length out))
  log-19 = told-good first second out _ (λ b c. TooShort b c (length out)) (refused 19) (λ which i at e. apart cc)
      (λ b c. log-room b c limit other out)

  -- so 9 comes after all of these: what is told of two good books is log-exactly
  pub log-of-good : {b c : Book} → GoodBook first b → GoodBook second c → log_of first second limit other out ≡ log_in b c limit other out
  log-of-good = on-good-books first second out (λ b c. log_in b c limit other out)

  pub log-keeps : ((e : Entry) → (log_of first second limit other out).told ≡ success e → ⊥)
      → (log_of first second limit other out).buffer ≡ out
  log-keeps = kept first second out _ (λ b c. log-leaves b c limit other out)

-- ---- what is written

pub joined-good-book : {b c : Book} → Fits b → Fits c → Together b c → GoodBook (joined_bytes b c) (joined b c)
unfolding joined
joined-good-book {b} {c} f g t = good_book (joined_bytes b c) (joined-good b c f g t.atoms t.rules)
