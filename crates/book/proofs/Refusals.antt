-- For each of 1 to 7: reading gives this number and place exactly if its row of the table holds and no row before it does; and a good book
-- exactly if none does. The tests of length, mark and trailer are followed down, and the records by their own law; what is told is found in
-- its row, and a row's own tests tell it. Document 01, "Numbers given back".
use mathlib.Core.Path.{◌≡◌, refl, ◌∙◌, subst}
use mathlib.Core.List.{List}
use mathlib.Core.Logic.{◌↔◌}
use Prim.Native.Nat.{ℕ, ◌-◌, ◌≤◌}
use native.Mathlib.Omega.{arith}
use lib.ListN.{length}
use Rattle.meaning.specs.Books.{Rule, Book}
use Rattle.meaning.proofs.Choice.{lt_no, lt-either, eq_yes, eq_no, eq-either}
use Rattle.book.specs.Format.{Check, fine, wrong, rules_of, BookRead, good, bad, if_fine, body_of, read_of, book_of, book_in}
use Rattle.book.specs.Rows.{LengthGood, MarkGood, atom_count, rule_count, index_start, TrailerGood, FramedBook, RecordsGood, none}
use Rattle.book.specs.Rows.{EntryWrong, RecordWrong, BytesWrong, GoodAs, GoodBook}
use Rattle.book.proofs.Records.{RecordsRow, all-good, at_entry, at-record, at-atom, at-order, records-row, records-told}

-- what reading a book tells
pub data BookRow (s : List ℕ) : BookRead → Type 0 where
  at_length : ¬ LengthGood s → BookRow s (bad 1 0)
  at_mark : LengthGood s → ¬ MarkGood s → BookRow s (bad 2 (length s - 2))
  at-trailer : LengthGood s → MarkGood s → ¬ TrailerGood s → BookRow s (bad 3 (length s - 4))
  in-records : {number place : ℕ} → FramedBook s → RecordsRow s (atom_count s) (rule_count s) (index_start s) (wrong number place)
      → BookRow s (bad number place)
  nowhere : FramedBook s → RecordsGood s (atom_count s) (index_start s) (rule_count s) (index_start s)
      → BookRow s (good (atom_count s) (rule_count s) (index_start s) (rules_of (rule_count s) s (index_start s) 0))

module _ (s : List ℕ) where
  abbrev n : ℕ
  n = atom_count s

  abbrev k : ℕ
  k = rule_count s

  abbrev index : ℕ
  index = index_start s

  read-row : FramedBook s → (c : Check) → RecordsRow s n k index c → BookRow s (if_fine c (good n k index (rules_of k s index 0)))
  unfolding if_fine
  read-row f fine (all-good g) = nowhere f g
  read-row f (wrong number place) row = in-records f row

  body-row : LengthGood s → MarkGood s → BookRow s (body_of s n k index)
  unfolding body_of
  body-row size mark =
      eq-either (BookRow s) _ _ _ _
      (λ e. read-row (record { size = size; mark = mark; trailer = e }) _
      (records-row s n index (omega arith) k k 0 0 (omega arith) none))
      (at-trailer size mark)

  book-row : BookRow s (read_of s)
  unfolding read_of
  book-row =
      lt-either (BookRow s) _ _ _ _ (λ h. at_length (λ l. omega (arith, l.at_least)))
      λ h. lt-either (BookRow s) _ _ _ _ (λ k. at_length (λ l. omega (arith, l.at_most)))
      λ k. let size : LengthGood s = record { at_least = h; at_most = k } in
      eq-either (BookRow s) _ _ _ _
      (λ e. eq-either (BookRow s) _ _ _ _ (λ f. body-row size (record { first = e; second = f })) (λ f. at_mark size (λ m. f m.second)))
      (λ e. at_mark size (λ m. e m.first))

  marked-read : LengthGood s → MarkGood s → read_of s ≡ body_of s n k index
  unfolding read_of
  marked-read l m = lt_no _ _ _ _ l.at_least ∙ lt_no _ _ _ _ l.at_most ∙ eq_yes _ _ _ _ m.first ∙ eq_yes _ _ _ _ m.second

  framed-read : (c : Check) → FramedBook s → RecordsRow s n k index c → read_of s ≡ if_fine c (good n k index (rules_of k s index 0))
  unfolding body_of
  framed-read c f row =
      let t = f.trailer in
      marked-read f.size f.mark ∙ eq_yes _ _ _ _ t ∙ rw (records-told s n index (omega arith) k row)

  book-told : {x : BookRead} → BookRow s x → read_of s ≡ x
  unfolding read_of body_of if_fine
  book-told (at_length m) =
      lt-either (λ x. x ≡ bad 1 0) _ _ _ _ (λ _. refl) λ h. lt-either (λ x. x ≡ bad 1 0) _ _ _ _ (λ _. refl)
      λ k. absurd (m (record { at_least = h; at_most = k }))
  book-told (at_mark l m) =
      let P : BookRead → Type 0 = λ x. x ≡ bad 2 (length s - 2) in
      lt_no _ _ _ _ l.at_least
      ∙ lt_no _ _ _ _ l.at_most
      ∙ eq-either P _ _ _ _ (λ e. eq-either P _ _ _ _ (λ f. absurd (m (record { first = e; second = f }))) (λ _. refl)) (λ _. refl)
  book-told (at-trailer l m t) = marked-read l m ∙ eq_no _ _ _ _ t
  book-told (in-records f row) = framed-read _ f row
  book-told (nowhere f g) = framed-read _ f (all-good g)

  pub row_of : {x : BookRead} → read_of s ≡ x → BookRow s x
  row_of e = subst (BookRow s) e book-row

  -- 1, at 0: the length is wrong
  pub refused-length : (place : ℕ) → (read_of s ≡ bad 1 place) ↔ ((¬ LengthGood s) × (place ≡ 0))
  refused-length place = (λ e. there (row_of e), λ c. rw c.1 (book-told (at_length c.0)))
    where
      there : {place : ℕ} → BookRow s (bad 1 place) → (¬ LengthGood s) × (place ≡ 0)
      there (at_length m) = (m, refl)
      there (in-records _ w) = elim w [ ]

  -- 2, at length - 2: the length is right, and the mark is not
  pub refused-mark : (place : ℕ) → (read_of s ≡ bad 2 place) ↔ (LengthGood s × (¬ MarkGood s) × (place ≡ length s - 2))
  refused-mark place = (λ e. there (row_of e), λ c. rw c.2 (book-told (at_mark c.0 c.1)))
    where
      there : {place : ℕ} → BookRow s (bad 2 place) → LengthGood s × (¬ MarkGood s) × (place ≡ length s - 2)
      there (at_mark l m) = (l, m, refl)
      there (in-records _ w) = elim w [ ]

  -- 3, at length - 4: these are right, and index start + 2R + 6 isn't the length
  pub refused-trailer : (place : ℕ) → (read_of s ≡ bad 3 place) ↔ (LengthGood s × MarkGood s × (¬ TrailerGood s) × (place ≡ length s - 4))
  refused-trailer place = (λ e. there (row_of e), λ c. rw c.3 (book-told (at-trailer c.0 c.1 c.2)))
    where
      there : {place : ℕ} → BookRow s (bad 3 place) → LengthGood s × MarkGood s × (¬ TrailerGood s) × (place ≡ length s - 4)
      there (at-trailer l m t) = (l, m, t, refl)
      there (in-records _ w) = elim w [ ]

  -- 4: these are right, and so are all records up to an entry, or to the last end, that is wrong
  pub refused-entry : (place : ℕ) → (read_of s ≡ bad 4 place) ↔ (FramedBook s × EntryWrong s n k index place)
  refused-entry place = (λ e. there (row_of e), λ c. book-told (in-records c.0 (at_entry c.1)))
    where
      there : {place : ℕ} → BookRow s (bad 4 place) → FramedBook s × EntryWrong s n k index place
      there (in-records f (at_entry w)) = (f, w)

  -- 5: these are right, all records up to one, and its entry, but it does not fit
  pub refused-record : (place : ℕ) → (read_of s ≡ bad 5 place) ↔ (FramedBook s × RecordWrong s n k index place)
  refused-record place = (λ e. there (row_of e), λ c. book-told (in-records c.0 (at-record c.1)))
    where
      there : {place : ℕ} → BookRow s (bad 5 place) → FramedBook s × RecordWrong s n k index place
      there (in-records f (at-record w)) = (f, w)

  -- 6: these are right, all records up to one, its entry and its limits, and all its bytes up to one that is not below A
  pub refused-atom : (place : ℕ) → (read_of s ≡ bad 6 place) ↔ (FramedBook s × BytesWrong s n k index 6 place)
  refused-atom place = (λ e. there (row_of e), λ c. book-told (in-records c.0 (at-atom c.1)))
    where
      there : {place : ℕ} → BookRow s (bad 6 place) → FramedBook s × BytesWrong s n k index 6 place
      there (in-records f (at-atom w)) = (f, w)

  -- 7: the same, up to a byte that is below A and not above the byte before it in its part
  pub refused-order : (place : ℕ) → (read_of s ≡ bad 7 place) ↔ (FramedBook s × BytesWrong s n k index 7 place)
  refused-order place = (λ e. there (row_of e), λ c. book-told (in-records c.0 (at-order c.1)))
    where
      there : {place : ℕ} → BookRow s (bad 7 place) → FramedBook s × BytesWrong s n k index 7 place
      there (in-records f (at-order w)) = (f, w)

  -- no other number is given
  pub bad-number : {number place : ℕ} → read_of s ≡ bad number place → number ≤ 7
  bad-number e = small (row_of e)
    where
      small : {number place : ℕ} → BookRow s (bad number place) → number ≤ 7
      small (at_length m) = omega arith
      small (at_mark l m) = omega arith
      small (at-trailer l m t) = omega arith
      small (in-records f (at_entry w)) = omega arith
      small (in-records f (at-record w)) = omega arith
      small (in-records f (at-atom w)) = omega arith
      small (in-records f (at-order w)) = omega arith

  -- none of these: a good book
  pub accepted : (m r i : ℕ) (l : List Rule) → (read_of s ≡ good m r i l) ↔ GoodAs s m r i l
  accepted m r i l = (λ e. there (row_of e), back)
    where
      there : {m r i : ℕ} {l : List Rule} → BookRow s (good m r i l) → GoodAs s m r i l
      there (nowhere f g) = record { framed = f; atoms = refl; rules = refl; start = refl; records = g; each = refl }

      back : GoodAs s m r i l → read_of s ≡ good m r i l
      back g =
          book-told (nowhere g.framed (rw (g.atoms, g.rules, g.start) g.records))
          ∙ rw (g.atoms, g.rules, g.start, g.each)

  -- the book that good bytes hold
  pub good-read : {b : Book} (g : GoodBook s b) → read_of s ≡ good b.atoms g.rule-count g.index b.rules
  good-read g = (accepted _ _ _ _).1 g.bytes

  pub good-is : {b : Book} → GoodBook s b → book_in s ≡ b
  unfolding book_in book_of
  good-is g = rw (good-read g)

  pub read-good : {m r i : ℕ} {l : List Rule} → read_of s ≡ good m r i l → GoodBook s (book_in s)
  unfolding book_in book_of
  read-good e = rw e (record { rule-count = _; index = _; bytes = (accepted _ _ _ _).0 e })
