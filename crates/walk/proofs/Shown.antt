-- What a listing shows (specs/Listing), whoever lists: by induction over its pages. Each page goes on where the page before ended
-- (proofs/Listing), so the rows shown are the readings of the one walk, each once and in order, up to where the listing stands.
use mathlib.Core.Path.{◌≡◌, refl, sym, ◌∙◌, ap, subst, fun_ext}
use mathlib.Core.Logic.{◌⊎◌, inl, inr}
use mathlib.Core.List.{List, [], ◌∷◌, ◌++◌, map, append-nil, append_assoc}
use Prim.Native.Nat.{ℕ, ◌≤◌, ◌<◌}
use native.Mathlib.Omega.{arith}
use lib.Dec.{eqb}
use lib.ListN.{length, take, length-append}
use lib.Seq.{take_at, drop_at, take_all, take-append_seam}
use Rattle.meaning.specs.Books.{Atoms, Rule, Book, count}
use Rattle.meaning.specs.Written.{nothing}
use Rattle.meaning.specs.Told.{success, Answered}
use Rattle.meaning.proofs.LeastModel.{Proper}
use Rattle.book.specs.Format.{good, read_of, book_of, book_in}
use Rattle.book.specs.Rows.{Bytes}
use Rattle.walk.specs.Events.{Event, events}
use Rattle.walk.specs.Readings.{readings_in}
use Rattle.walk.specs.Run.{row_of}
use Rattle.walk.specs.Page.{PageEnd, whole, last, cut, set_in, events_from, page_in, page_read, page_of}
use Rattle.walk.specs.Listing.{rows_in, SameRow, Ending, so_far, at-end, at-limit, rows_up_to, Shows}
use Rattle.walk.specs.Listing.{Listing, no_call, last-page, cut-page, full-page}
use Rattle.walk.proofs.Rows.{rows_of, row-length}
use Rattle.walk.proofs.Readings.{readings-append}
use Rattle.walk.proofs.Needs.{amount}
use Rattle.walk.proofs.Demand.{read_fits}
use Rattle.walk.proofs.Paging.{filled, Outcome, all-rows, full-page as full, limit-met, no_room, page-outcome}
use Rattle.walk.proofs.Listing.{Listed, listed_start, pages-join, pages-end, pages-stop}

-- ---- rows

-- the rows in front of a buffer, one by one
rows-in-front : (b : Book) (l : List Atoms) (bytes : List ℕ) → rows_in b.atoms (length l) (rows_of b l ++ bytes) ≡ map (row_of b) l
unfolding rows_in rows_of
rows-in-front b [] bytes = refl
rows-in-front b (x ∷ l) bytes =
    let row = row_of b x in
    rw (
      append_assoc row (rows_of b l) bytes,
      take_at row (rows_of b l ++ bytes) _ (row-length b x),
      drop_at row (rows_of b l ++ bytes) _ (row-length b x),
    )
    (ap (λ (rows : List (List ℕ)). row ∷ rows) (rows-in-front b l bytes))

-- a page that holds the readings of some events
pub page-rows : (b : Book) (out : List ℕ) (es : List Event) {m : ℕ} {buffer : List ℕ} → m ≡ amount b es
    → buffer ≡ filled b out (readings_in b es) → rows_in b.atoms m buffer ≡ map (row_of b) (readings_in b es)
page-rows b out es e w = (λ i. rows_in b.atoms (e i) (w i)) ∙ rows-in-front b (readings_in b es) _

map-append : {A B : Type 0} (f : A → B) (xs ys : List A) → map f (xs ++ ys) ≡ map f xs ++ map f ys
map-append f [] ys = refl
map-append f (x ∷ xs) ys = ap (λ (l : List _). f x ∷ l) (map-append f xs ys)

same_set : (row before : List ℕ) → SameRow row before → set_in row ≡ set_in before
unfolding set_in
same_set row before same = fun_ext (λ a. ap (λ (n : ℕ). eqb n 1) (same a.0))

listed_same : {b : Book} {n : ℕ} {row before : List ℕ} {done todo : List Event} → SameRow row before
    → Listed b n before done todo → Listed b n row done todo
listed_same {b} {n} {row} {before} same l = record {
  walk = l.walk;
  tries = l.tries;
  next = l.next ∙ ap (events_from b n) (sym (same_set row before same));
}

-- ---- how far a listing goes

module _ (b : Book) (fits : count b ≤ 255) (proper : Proper b) (limit : ℕ) where
  -- how a listing stands behind the first n tries
  data Stands (n : ℕ) : Ending → Type 0 where
    going : {tries : ℕ} → tries ≡ n → n ≤ limit → Stands n (so_far tries)
    ended : {all : ℕ} → all ≡ n → n ≡ length (events b nothing) → n ≤ limit → Stands n (at-end all)
    limited : n ≡ limit → limit < length (events b nothing) → Stands n at-limit

  -- behind the events `done` it shows the rows of some more
  record Further (done : List Event) (shown : List (List ℕ)) (ending : Ending) : Type 0 where
    pub more : List Event
    pub later : List Event
    pub walk : events b nothing ≡ (done ++ more) ++ later
    pub rows : shown ≡ map (row_of b) (readings_in b more)
    pub stands : Stands (length (done ++ more)) ending

  further : {n : ℕ} {before : List ℕ} {shown : List (List ℕ)} {ending : Ending} {done todo : List Event}
      → Listing (page_in b limit) b n before shown ending → n ≤ limit → Listed b n before done todo → Further done shown ending
  unfolding readings_in
  further {done = done} {todo = todo} no_call h l = record {
    more = [];
    later = todo;
    walk = l.walk ∙ ap (λ (es : List Event). es ++ todo) (sym (append-nil done));
    rows = refl;
    stands = going (l.tries ∙ ap length (sym (append-nil done))) (omega (arith, l.tries, ap length (append-nil done)));
  }
  further {n = n} {done = done} {todo = todo} (last-page row out all rows same e) h l =
      let (t, k, m, w) = pages-end b fits limit n row out h (listed_same same l) all rows e in
      let z : all ≡ length (done ++ todo) = t ∙ ap length l.walk in
      record {
        more = todo;
        later = [];
        walk = l.walk ∙ sym (append-nil (done ++ todo));
        rows = page-rows b out todo m w;
        stands = ended z (sym (ap length l.walk)) (omega arith);
      }
  further {n = n} {done = done} (cut-page row out rows same e) h l =
      let c = pages-stop b fits limit n row out h (listed_same same l) rows e in
      record {
        more = c.more;
        later = c.later;
        walk = l.walk ∙ ap (λ (es : List Event). done ++ es) c.parted ∙ sym (append_assoc done c.more c.later);
        rows = page-rows b out c.more c.rows c.written;
        stands = limited (sym c.tries) c.longer;
      }
  further {n = n} {done = done} (full-page row out t {shown = shown} {ending = ending} same e rest) h l =
      let (j, k) = pages-join b fits limit n row out h (listed_same same l) proper t e in
      let f = further rest k j.listed in
      let z = append_assoc done j.more f.more in
      record {
        more = j.more ++ f.more;
        later = f.later;
        walk = f.walk ∙ ap (λ (es : List Event). es ++ f.later) z;
        rows = rw (readings-append, map-append) (λ i. page-rows b out j.more (sym j.rows) j.written i ++ f.rows i);
        stands = rw z at f.stands;
      }

  -- ---- from the start

  shows : {shown : List (List ℕ)} {ending : Ending} (es later : List Event) → events b nothing ≡ es ++ later
      → shown ≡ map (row_of b) (readings_in b es) → Stands (length es) ending → Shows b limit shown ending
  unfolding Shows rows_up_to
  shows es later w r (going e h) =
      (r ∙ rw (e, w, take-append_seam es later), omega (arith, ap length w, length-append es later), omega arith)
  shows es later w r (ended e t h) =
      let z : es ≡ events b nothing =
      sym (take-append_seam es later) ∙ ap (take (length es)) (sym w) ∙ take_all (length es) (events b nothing) (omega arith) in
      (r ∙ ap (λ (l : List Event). map (row_of b) (readings_in b l)) z, e ∙ t, omega arith)
  shows es later w r (limited e h) = (r ∙ rw (← e, w, take-append_seam es later), h)

  -- whoever hands the last row back is shown the readings, each once, in their order, with the tries of one walk
  pub listing-shows : (row : List ℕ) {shown : List (List ℕ)} {ending : Ending} → Listing (page_in b limit) b 0 row shown ending
      → Shows b limit shown ending
  listing-shows row l = let f = further l (omega arith) (listed_start b row) in shows f.more f.later f.walk f.rows f.stands

-- a call with room for a row always goes on, by one try at least, or ends, or is cut: at most as many pages are full as the limit has tries
pub page-goes : (b : Book) (limit n : ℕ) (row out : List ℕ) → n ≤ limit → b.atoms ≤ length out
    → ((t : ℕ) × ((page_in b limit n row out).told ≡ success (whole t)) × (n < t) × (t ≤ limit))
    ⊎ (((t : ℕ) × (m : ℕ) × ((page_in b limit n row out).told ≡ success (last t m))) ⊎ ((m : ℕ) × ((page_in b limit n row out).told ≡ success (cut m))))
page-goes b limit n row out h room = goes (page-outcome b limit n row out h)
  where
    goes : {todo : List Event} {A : Answered PageEnd} → Outcome b limit n row out todo A
        → ((t : ℕ) × (A.told ≡ success (whole t)) × (n < t) × (t ≤ limit))
        ⊎ (((t : ℕ) × (m : ℕ) × (A.told ≡ success (last t m))) ⊎ ((m : ℕ) × (A.told ≡ success (cut m))))
    goes (all-rows k l) = inr (inl (_, _, refl))
    goes (full more d later q k l) = inl (_, refl, omega arith, omega arith)
    goes (limit-met more e later q k l) = inr (inr (_, refl))
    goes (no_room k) = absurd (omega arith)

-- ---- of the bytes of a book

module _ (s : List ℕ) (n r index : ℕ) (l : List Rule) (e : read_of s ≡ good n r index l) (limit : ℕ) where
  pub page-good-book : (k : ℕ) (row out : List ℕ) → page_of s limit k row out ≡ page_in (book_in s) limit k row out
  unfolding page_of page_read book_in book_of
  page-good-book k row out = rw e

  -- the same of any good bytes, whatever row the first call hands over
  pub book-shows : Bytes s → (row : List ℕ) {shown : List (List ℕ)} {ending : Ending}
      → Listing (page_of s limit) (book_in s) 0 row shown ending → Shows (book_in s) limit shown ending
  book-shows bytes row {shown = shown} {ending = ending} p =
      let (fits, proper) = read_fits s n r index l bytes e in
      listing-shows (book_in s) fits proper limit row
      (subst (λ (page : ℕ → List ℕ → List ℕ → Answered PageEnd). Listing page (book_in s) 0 row shown ending)
      (fun_ext (λ k. fun_ext (λ before. fun_ext (λ out. page-good-book k before out)))) p)
