-- The table's totals are those of the books that count (request 13, `table-turn`): a book that is refused or has no answer set leaves the
-- totals as they were, and any other is one more counted book.
use Rattle.std.proofs.Common.{◌≡◌, ℕ, zero, suc, ◌+◌, ◌*◌, ◌^◌, ◌<◌, ◌≤◌, ◌↔◌, List, [], ◌∷◌, ◌++◌, length, take, sym, refl, ap, ◌∙◌, subst, ⊎_elim, append_assoc, append-nil, arith, take_at}
use mathlib.Core.List.Memᴰ
use mathlib.Core.List.{Memᴰ}
use Rattle.meaning.specs.Books.{Rule, Book, count}
use Rattle.meaning.specs.Written.{nothing}
use Rattle.meaning.specs.Told.{Told, success, refused_with, refused_at, refused}
use Rattle.meaning.proofs.Tests.{lt-or-le}
use Rattle.meaning.proofs.Choice.{lt_yes, lt_no, lt-either}
use Rattle.book.specs.Format.{BookRead, good, bad, book_of, book_in, read_of}
use Rattle.book.specs.Rows.{Bytes}
use Rattle.book.specs.Writing.{Fits}
use Rattle.book.proofs.Shapes.{good-fits}
use Rattle.walk.specs.Events.{events}
use Rattle.walk.specs.Readings.{readings}
use Rattle.walk.proofs.Readings.{readings-all}
use Rattle.counting.specs.Counts.{standings, Counts, HasOne}
use Rattle.counting.specs.Count.{count_in}
use Rattle.counting.specs.Totals.{no_totals, atoms_of, TotalsOf}
use Rattle.counting.specs.Table.{Opened, unread, bytes, row, no-sets, refuse, Turn, turn_by, turn_of, turns_of}
use Rattle.counting.specs.Table.{counted_book, counted_read, counted_of, counted_in}
use Rattle.counting.specs.declared.sum.Totals.{Totals}
use Rattle.counting.proofs.Numbers.{numbers-length}
use Rattle.counting.proofs.Standing.{has_one}
use Rattle.counting.proofs.Counts.{told-or-stopped, count-within, count-beyond, count-counts, count-bad-book, count-good-book}
use Rattle.counting.proofs.TotalsOver.{atoms-append, atoms-with, totals-with, no-totals, totals-sum}

-- ---- one book

-- the turn of a good book
abbrev pub turn_in : Book → ℕ → List ℕ → Totals → Turn
turn_in b limit counts t = turn_by (count_in b limit counts).told b.atoms (count_in b limit counts).buffer t

-- the counted book by what is told
unfoldable counted_by : Told ℕ → Book → List Book
counted_by (success zero) b = []
counted_by (success (suc n)) b = b ∷ []
counted_by (refused_with i values) b = []
counted_by (refused_at i at) b = []
counted_by (refused i) b = []

module _ (b : Book) (limit : ℕ) where
  counted-beyond : limit < length (events b nothing) → counted_book b limit ≡ []
  unfolding counted_book
  counted-beyond h = lt_yes _ _ _ _ h

  counted-yes : length (events b nothing) ≤ limit → 0 < length (readings b) → counted_book b limit ≡ b ∷ []
  unfolding counted_book
  counted-yes h k = lt_no _ _ _ _ h ∙ lt_yes _ _ _ _ k

  counted_none : length (events b nothing) ≤ limit → length (readings b) ≤ 0 → counted_book b limit ≡ []
  unfolding counted_book
  counted_none h k = lt_no _ _ _ _ h ∙ lt_no _ _ _ _ k

  counted-atoms : atoms_of (counted_book b limit) ≤ b.atoms
  unfolding counted_book atoms_of
  counted-atoms = lt-either (λ (l : List Book). atoms_of l ≤ b.atoms) _ _ _ _ (λ h. omega arith)
      (λ h. lt-either (λ (l : List Book). atoms_of l ≤ b.atoms) _ _ _ _ (λ k. omega arith) (λ k. omega arith))

module _ (b : Book) (limit : ℕ) (counts : List ℕ) where
  counted-told : counted_book b limit ≡ counted_by (count_in b limit counts).told b
  unfolding counted_by
  counted-told = told-or-stopped b limit counts (λ r. counted_book b limit ≡ counted_by r.told b)
      (λ h. by_number h (length (readings b)) refl) (counted-beyond b limit)
    where
      by_number : length (events b nothing) ≤ limit → (k : ℕ) → length (readings b) ≡ k → counted_book b limit ≡ counted_by (success k) b
      by_number h zero e = counted_none b limit h (omega arith)
      by_number h (suc n) e = counted-yes b limit h (omega arith)

  turn-told : (r : Told ℕ) (cs : List ℕ) → ((n : ℕ) → r ≡ success n → Counts b n cs) → {bs : List Book} {t : Totals} → TotalsOf bs t
      → atoms_of (bs ++ counted_by r b) < 2 ^ 32 → TotalsOf (bs ++ counted_by r b) (turn_by r b.atoms cs t).totals
  unfolding counted_by turn_by
  turn-told (success zero) cs f g k = rw append-nil g
  turn-told (success (suc n)) cs f {bs} g k = totals-with (f (suc n) refl) (omega arith) g (rw (atoms-with b bs) at k)
  turn-told (refused_with i values) cs f g k = rw append-nil g
  turn-told (refused_at i at) cs f g k = rw append-nil g
  turn-told (refused i) cs f g k = rw append-nil g

  turn-in-right : count b ≤ 255 → {bs : List Book} {t : Totals} → TotalsOf bs t → atoms_of (bs ++ counted_book b limit) < 2 ^ 32
      → TotalsOf (bs ++ counted_book b limit) (turn_in b limit counts t).totals
  turn-in-right fits {bs} {t} g k =
      subst (λ (l : List Book). TotalsOf (bs ++ l) (turn_in b limit counts t).totals) (sym counted-told)
      (turn-told _ _ (λ n e. count-counts b limit counts fits e) g (rw counted-told at k))

  -- ---- its line

  module _ (t : Totals) where
    pub turn_stopped : limit < length (events b nothing) → turn_in b limit counts t ≡ record { line = refuse 9; counts = counts; totals = t }
    unfolding turn_by
    turn_stopped h = rw (count-beyond b limit counts h)

    module _ (within : length (events b nothing) ≤ limit) where
      pub turn-no-sets : length (readings b) ≡ 0 → (turn_in b limit counts t).line ≡ no-sets
      unfolding turn_by
      turn-no-sets e = rw (count-within b limit counts within, e)

      pub turn-row : 0 < length (readings b) → (turn_in b limit counts t).line ≡ row (length (readings b)) (standings b.atoms (readings b))
      unfolding turn_by
      turn-row h = rw (count-within b limit counts within)
          (line (length (readings b)) h _ ∙ ap (row (length (readings b))) (take_at _ _ _ (numbers-length 0 b.atoms _)))
        where
          line : (n : ℕ) → 0 < n → (cs : List ℕ) → (turn_by (success n) b.atoms cs t).line ≡ row n (take b.atoms cs)
          line zero k cs = absurd (omega arith)
          line (suc n) k cs = refl

-- what counts: the walk needs no more tries than the limit, and there is an answer set
pub counted_is : (b d : Book) (limit : ℕ) → count b ≤ 255
    → Memᴰ d (counted_book b limit) ↔ ((d ≡ b) × (length (events b nothing) ≤ limit) × HasOne b)
counted_is b d limit fits = (there, back)
  where
    one : HasOne b ↔ (0 < length (readings b))
    one = has_one b (readings b) (readings-all b fits)

    back : (d ≡ b) × (length (events b nothing) ≤ limit) × HasOne b → Memᴰ d (counted_book b limit)
    back (e, h, p) = subst (Memᴰ d) (sym (counted-yes b limit h (one.0 p))) (Memᴰ.head e)

    there : Memᴰ d (counted_book b limit) → (d ≡ b) × (length (events b nothing) ≤ limit) × HasOne b
    there m = ⊎_elim (λ h. absurd (Memᴰ.not-nil (subst (Memᴰ d) (counted-beyond b limit h) m)))
        (λ h. ⊎_elim (λ k. (Memᴰ.eq_of_singleton (subst (Memᴰ d) (counted-yes b limit h k) m), h, one.1 k))
        (λ k. absurd (Memᴰ.not-nil (subst (Memᴰ d) (counted_none b limit h k) m)))
        (lt-or-le 0 (length (readings b))))
        (lt-or-le limit (length (events b nothing)))

-- ---- the bytes of a book

module _ (s : List ℕ) (limit : ℕ) where
  module _ (counts : List ℕ) (t : Totals) where
    -- a refused book gets a line with the refusal's number, and counts in no total
    pub turn-bad-book : (number at : ℕ) → read_of s ≡ bad number at
        → turn_of (bytes s) limit counts t ≡ record { line = refuse number; counts = counts; totals = t }
    unfolding turn_of turn_by
    turn-bad-book number at e = rw (count-bad-book s limit counts number at e)

    -- all that is said above of a book holds of the book that good bytes hold
    pub turn-good-book : (n k index : ℕ) (l : List Rule) → read_of s ≡ good n k index l
        → turn_of (bytes s) limit counts t ≡ turn_in (book_in s) limit counts t
    unfolding turn_of
    turn-good-book n k index l e = rw (count-good-book s limit counts n k index l e)

  counted-bad-book : {number at : ℕ} → read_of s ≡ bad number at → counted_of (bytes s) limit ≡ []
  unfolding counted_of counted_read
  counted-bad-book e = rw e

  counted-good-book : {n k index : ℕ} {l : List Rule} → read_of s ≡ good n k index l → counted_of (bytes s) limit ≡ counted_book (book_in s) limit
  unfolding counted_of counted_read book_in book_of
  counted-good-book e = rw e

  module _ (all : Bytes s) where
    good-book-fits : {n k index : ℕ} {l : List Rule} → read_of s ≡ good n k index l → Fits (book_in s)
    unfolding book_in
    good-book-fits e = good-fits s _ _ _ _ all e

    -- what the bytes add to the totals: nothing, or one book that counts
    bytes-turn : (counts : List ℕ) {bs : List Book} {t : Totals} → TotalsOf bs t → atoms_of (bs ++ counted_of (bytes s) limit) < 2 ^ 32
        → TotalsOf (bs ++ counted_of (bytes s) limit) (turn_of (bytes s) limit counts t).totals
    bytes-turn counts {bs} {t} g = by_read (read_of s) refl
      where
        by_read : (r : BookRead) → read_of s ≡ r → atoms_of (bs ++ counted_of (bytes s) limit) < 2 ^ 32
            → TotalsOf (bs ++ counted_of (bytes s) limit) (turn_of (bytes s) limit counts t).totals
        by_read (bad i at) e k = rw (counted-bad-book e, turn-bad-book counts t i at e, append-nil) g
        by_read (good n r index l) e k = rw (counted-good-book e, turn-good-book counts t n r index l e)
            (turn-in-right (book_in s) limit counts (good-book-fits e).rules g (rw (counted-good-book e) at k))

    bytes-atoms : atoms_of (counted_of (bytes s) limit) ≤ 255
    unfolding atoms_of
    bytes-atoms = by_read (read_of s) refl
      where
        by_read : (r : BookRead) → read_of s ≡ r → atoms_of (counted_of (bytes s) limit) ≤ 255
        by_read (bad i at) e = rw (counted-bad-book e) (omega arith)
        by_read (good n r index l) e = rw (counted-good-book e) (omega (arith, counted-atoms (book_in s) limit, (good-book-fits e).atoms))

    bytes-have : (b : Book) → Memᴰ b (counted_of (bytes s) limit) → HasOne b
    bytes-have b = by_read (read_of s) refl
      where
        by_read : (r : BookRead) → read_of s ≡ r → Memᴰ b (counted_of (bytes s) limit) → HasOne b
        by_read (bad i at) e m = absurd (Memᴰ.not-nil (rw (counted-bad-book e) at m))
        by_read (good n r index l) e m =
            let (p, h, one) = (counted_is (book_in s) b limit (good-book-fits e).rules).0 (rw (counted-good-book e) at m) in rw p one

-- ---- all books

-- what was read are bytes
abbrev pub AllBytes : List Opened → Type 0
AllBytes os = (s : List ℕ) → Memᴰ (bytes s) os → Bytes s

module _ (limit : ℕ) where
  pub table-turn : (o : Opened) → ((s : List ℕ) → o ≡ bytes s → Bytes s) → (counts : List ℕ) {bs : List Book} {t : Totals} → TotalsOf bs t
      → atoms_of (bs ++ counted_of o limit) < 2 ^ 32 → TotalsOf (bs ++ counted_of o limit) (turn_of o limit counts t).totals
  unfolding turn_of counted_of
  table-turn unread f counts g k = rw append-nil g
  table-turn (bytes s) f counts g k = bytes-turn s limit (f s refl) counts g k

  turns-right : (os : List Opened) → AllBytes os → (counts : List ℕ) {bs : List Book} {t : Totals} → TotalsOf bs t
      → atoms_of (bs ++ counted_in os limit) < 2 ^ 32 → TotalsOf (bs ++ counted_in os limit) (turns_of os limit counts t).totals
  unfolding turns_of counted_in
  turns-right [] f counts g k = rw append-nil g
  turns-right (o ∷ os) f counts {bs} {t} g k =
      let e = append_assoc bs (counted_of o limit) (counted_in os limit) in
      let all : atoms_of (bs ++ counted_of o limit ++ counted_in os limit) < 2 ^ 32 = rw e k in
      let front = atoms-append (bs ++ counted_of o limit) (counted_in os limit) in
      rw e at (turns-right os (λ s m. f s (Memᴰ.tail m)) (turn_of o limit counts t).counts
      (table-turn o (λ s q. f s (Memᴰ.head (sym q))) counts g (omega (arith, all, front))) all)

  counted-small : (os : List Opened) → AllBytes os → atoms_of (counted_in os limit) ≤ 255 * length os
  unfolding counted_in counted_of atoms_of
  counted-small [] f = omega arith
  counted-small (unread ∷ os) f = let h = counted-small os (λ s m. f s (Memᴰ.tail m)) in omega arith
  counted-small (bytes s ∷ os) f =
      let h = counted-small os (λ u m. f u (Memᴰ.tail m)) in
      let k = bytes-atoms s limit (f s (Memᴰ.head refl)) in
      omega (arith, h, k, atoms-append (counted_read (read_of s) limit) (counted_in os limit))

  -- each book that counts has an answer set, so that the three together are all atoms
  counted-have : (os : List Opened) → AllBytes os → (b : Book) → Memᴰ b (counted_in os limit) → HasOne b
  unfolding counted_in counted_of
  counted-have [] f b m = absurd (Memᴰ.not-nil m)
  counted-have (unread ∷ os) f b m = counted-have os (λ s k. f s (Memᴰ.tail k)) b m
  counted-have (bytes s ∷ os) f b m = ⊎_elim
      (bytes-have s limit (f s (Memᴰ.head refl)) b)
      (counted-have os (λ u k. f u (Memᴰ.tail k)) b)
      (Memᴰ.append_cases (counted_read (read_of s) limit) m)

  module _ (os : List Opened) (f : AllBytes os) (few : length os ≤ 64) (counts : List ℕ) where
    pub table-right : TotalsOf (counted_in os limit) (turns_of os limit counts no_totals).totals
    table-right = turns-right os f counts no-totals (omega (arith, counted-small os f))

    pub table-sum : let t = (turns_of os limit counts no_totals).totals in t.certain + t.some + t.none ≡ t.atoms
    table-sum =
        let g = table-right in
        totals-sum (counted_in os limit) (counted-have os f) g.certain g.some g.none ∙ sym g.atoms
