-- Two books read one after the other (specs/Join, on_books): the first refusal decides and tells which book it is; else what is done with
-- the two books that the bytes hold. And what is laid out of them: 17, 19, or the joined book.
use mathlib.Core.Path.{◌≡◌, refl, sym, ◌∙◌, ap}
use mathlib.Core.Logic.{inl, inr, ⊎_elim}
use mathlib.Core.List.{List, ◌++◌}
use Prim.Native.Nat.{ℕ, ◌+◌, ◌≤◌, ◌<◌}
use native.Mathlib.Omega.{arith}
use lib.ListN.{length, take, drop, length-replicate, replicate}
use lib.Seq.{take_all}
use Rattle.std.specs.Prelude.{Result, Ok, Err, MatchResult}
use Rattle.std.specs.Result.{IsErrAnd}
use Rattle.meaning.specs.Books.{Book, count}
use Rattle.meaning.specs.Joined.{joined}
use Rattle.meaning.specs.Told.{success, refused_at, Answered}
use Rattle.meaning.proofs.Tests.{lt-or-le, apart}
use Rattle.book.specs.declared.refusal.Refusal.{Refusal}
use Rattle.book.specs.declared.reader.Shape.{Shape}
use Rattle.book.specs.Numbers.{number_of, place_of}
use Rattle.book.specs.Numbers.{told as book_told}
use Rattle.book.specs.Format.{BookRead, good, bad, read_of, told_of, book_of, book_in, ReadAs, book_bytes}
use Rattle.book.specs.Making.{Finished}
use Rattle.crews.specs.declared.answer.Unjoined.{Unjoined}
use Rattle.crews.specs.declared.answer.Unjoined.TheVariants.{TooMany as Over, NoRoom as Short}
use Rattle.crews.specs.Join.{of_book, told, only, joined_bytes, laid_of, join_laid, on_books}
use Rattle.crews.specs.Rows.{Together}
use Rattle.crews.proofs.Laying.{Lays, lays-over, lays-short, lays-book, lays, laid_as}

-- ---- two books are read

-- what `map_err` hands on: a value as it is, an error as it was made over
module _ {T E D : Type 0} (P : E → D → Type 0) where
  pub mapped-ok : (r : Result T E) {m : Result T D} → MatchResult r (λ x. m ≡ Ok x) (λ e. IsErrAnd m (P e)) → {x : T} → m ≡ Ok x → r ≡ Ok x
  mapped-ok (Ok y) h {x} e = let z : y ≡ x = cc in ap Ok z
  mapped-ok (Err y) h e = absurd (rw e at h)

  pub mapped-err : (r : Result T E) {m : Result T D} → MatchResult r (λ x. m ≡ Ok x) (λ e. IsErrAnd m (P e)) → {d : D} → m ≡ Err d
      → (y : E) × (r ≡ Err y) × P y d
  mapped-err (Ok y) h e = apart cc
  mapped-err (Err y) h e = (y, refl, rw e at h)

module _ {S : Type 0} (out : List ℕ) (f : Book → Book → Answered S) where
  bad-first : (x y : BookRead) {i at : ℕ} → refused_at i at ≡ told_of x → only out (of_book 1 i at) ≡ on_books x y out f
  unfolding told_of on_books
  bad-first (good n k index l) y e = apart cc
  bad-first (bad j to) y e = cc

  bad-second : (h : Shape) (x y : BookRead) {i at : ℕ} → told_of x ≡ told_of (good h.atoms h.rules h.index (book_of x).rules)
      → refused_at i at ≡ told_of y → only out (of_book 2 i at) ≡ on_books x y out f
  unfolding told_of on_books book_of
  bad-second h (good n k index l) (good m j start t) g e = apart cc
  bad-second h (good n k index l) (bad j to) g e = cc
  bad-second h (bad j to) y g e = apart cc

  good-both : (h k : Shape) (x y : BookRead) → told_of x ≡ told_of (good h.atoms h.rules h.index (book_of x).rules)
      → told_of y ≡ told_of (good k.atoms k.rules k.index (book_of y).rules) → f (book_of x) (book_of y) ≡ on_books x y out f
  unfolding told_of on_books book_of
  good-both h k (good n r index l) (good m j start t) g e = refl
  good-both h k (good n r index l) (bad j to) g e = apart cc
  good-both h k (bad j to) y g e = apart cc

  module _ (s t : List ℕ) where
    pub first-refused : (why : Refusal) → book_told (Err why) ≡ told_of (read_of s)
        → only out (of_book 1 (number_of why) (place_of why)) ≡ on_books (read_of s) (read_of t) out f
    first-refused why e = bad-first _ _ e

    module _ {h : Shape} (e : ReadAs s h) where
      pub second-refused : (why : Refusal) → book_told (Err why) ≡ told_of (read_of t)
          → only out (of_book 2 (number_of why) (place_of why)) ≡ on_books (read_of s) (read_of t) out f
      unfolding told_of
      second-refused why d = bad-second h _ _ e d

      pub both_read : {k : Shape} → ReadAs t k → {a : Answered S} → a ≡ f (book_in s) (book_in t)
          → a ≡ on_books (read_of s) (read_of t) out f
      unfolding told_of book_in
      both_read {k} d p = p ∙ good-both h k _ _ e d

-- ---- what is laid out

module _ (b c : Book) (room : ℕ) where
  pub over-atoms : 255 < b.atoms + c.atoms → Err Over ≡ laid_of b c room
  over-atoms h = sym (laid_as b c room (lays-over (inl h)))

  module _ (few : b.atoms + c.atoms ≤ 255) where
    pub over-rules : 255 < count b + count c → Err Over ≡ laid_of b c room
    over-rules h = sym (laid_as b c room (lays-over (inr h)))

    module _ (fewer : count b + count c ≤ 255) {n : ℕ} {draft : List ℕ} (f : Finished (joined b c) n draft) where
      together : Together b c
      together = record { atoms = few; rules = fewer }

      pub too_short : room < n → Err Short ≡ laid_of b c room
      too_short h = sym (laid_as b c room (lays-short (together, rw (← f.size) h)))

      pub laid_out : n ≤ room → Ok n ≡ laid_of b c room
      laid_out h = ap Ok f.size ∙ sym (laid_as b c room (lays-book (together, rw (← f.size) h)))

  -- a book that is laid out fits the room
  pub laid-room : {n : ℕ} → Ok n ≡ laid_of b c room → (n ≤ room) × (n ≡ length (joined_bytes b c))
  laid-room {n} = go (lays b c room)
    where
      go : {x : Result ℕ Unjoined} → Lays b c room x → Ok n ≡ x → (n ≤ room) × (n ≡ length (joined_bytes b c))
      go (lays-over h) e = apart cc
      go (lays-short h) e = apart cc
      go (lays-book (t, h)) e = let z : n ≡ length (joined_bytes b c) = cc in (omega (arith, h), z)

-- a book or none, and which
pub no-book : {A : Type 0} (why : Unjoined) {n : ℕ} → ◌≡◌ {A = Result ℕ Unjoined} (Err why) (Ok n) → A
no-book why e = apart cc

pub laid-book : {b : Book} {n m : ℕ} {draft : List ℕ} → ◌≡◌ {A = Result ℕ Unjoined} (Ok n) (Ok m) → Finished b n draft → Finished b m draft
laid-book {n = n} {m} e f = let z : n ≡ m = cc in rw z at f

pub blank : length {A = ℕ} (replicate book_bytes 0) ≡ book_bytes
blank = length-replicate {A = ℕ} book_bytes 0

-- a book in the draft is no longer than the draft
pub finished-inside : {b : Book} {n : ℕ} {draft : List ℕ} → Finished b n draft → n ≤ length draft
finished-inside {n = n} {draft} f = ⊎_elim
    (λ h. let e = take_all n draft (omega arith) in
    absurd (omega (arith, f.size, ap (length {A = ℕ}) e, ap (length {A = ℕ}) f.bytes)))
    (λ h. h) (lt-or-le (length draft) n)

-- the front of the draft, as code takes it: the joined book
module _ (b c : Book) {n : ℕ} {draft : List ℕ} (f : Finished (joined b c) n draft) where
  pub front_length : n ≡ length (take n draft)
  front_length = f.size ∙ ap (length {A = ℕ}) (sym f.bytes)

  pub front-room : {room : ℕ} {r : Result ℕ Unjoined} → r ≡ laid_of b c room → r ≡ Ok n → length (take n draft) ≤ room
  front-room {room} e g = let k = laid-room b c room (sym g ∙ e) in omega (arith, k.0, front_length)

-- ---- the joined book handed over

module _ (b c : Book) (out : List ℕ) {r : Result ℕ Unjoined} (e : r ≡ laid_of b c (length out)) where
  pub join-refused : {why : Unjoined} → r ≡ Err why → only out (told (Err why)) ≡ join_laid (laid_of b c (length out)) b c out
  unfolding join_laid
  join-refused g = rw (← e, g)

  pub join-laid : {n : ℕ} → r ≡ Ok n → {front after : List ℕ} → front ≡ joined_bytes b c
      → after ≡ front ++ drop (length front) out
      → record { told = success n; buffer = after } ≡ join_laid (laid_of b c (length out)) b c out
  unfolding join_laid
  join-laid {n} g f h = rw (← e, g) (λ i. record { told = success n; buffer = (h ∙ ap (λ (z : List ℕ). z ++ drop (length z) out) f) i })
