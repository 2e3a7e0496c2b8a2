-- A listing goes on from page to page (specs/Following) as walk's `Listing` says it, so that at its end it has listed the readings of the
-- one walk, each once. Each full page has a try for each of its rows at least, so that the sums fit and the listing ends.
use Rattle.std.proofs.Common.{◌≡◌, ℕ, zero, suc, ◌+◌, ◌-◌, ◌*◌, ◌<◌, ◌≤◌, List, [], ◌∷◌, ◌++◌, length, take, drop, replicate, sym, refl, ap, ◌∙◌, subst, ⊎_elim, append_assoc, suc-mul, div-le_self, arith, length-append, length-drop, length-take-le, get_or-drop, get_or-append-add}
use Rattle.std.specs.Prelude.{Option, Some, None, Result, Ok, Err}
use lib.ListN.{length-map, get_or-replicate}
use lib.ListN.{get_or-append, get_or-eq_default, length-replicate}
use Rattle.meaning.specs.Books.{Book}
use Rattle.meaning.specs.Told.{Told, success, refused_at, refused, Answered}
use Rattle.meaning.proofs.Tests.{lt-or-le, apart}
use Rattle.meaning.proofs.Choice.{eq-either}
use Rattle.book.specs.Format.{read_of, book_in, book_of, ReadAs}
use Rattle.book.specs.Rows.{Bytes}
use Rattle.book.proofs.Shapes.{told-good}
use Rattle.book.specs.declared.reader.Shape.{Shape}
use Rattle.walk.specs.Events.{Event, clash, fork, reading, quiet}
use Rattle.walk.specs.Readings.{readings_in, readings}
use Rattle.walk.specs.Run.{row_of}
use Rattle.walk.specs.declared.page_answer.Page.{Page}
use Rattle.walk.specs.declared.page_answer.Page.TheVariants.{Whole, Last, Cut}
use Rattle.walk.specs.declared.page_answer.NoPage.{NoPage}
use Rattle.walk.specs.Page.{PageEnd, whole, told, room_in, page_in, page_read, page_of}
use Rattle.walk.specs.Listing.{rows_in, SameRow, Ending, Shows}
use Rattle.walk.specs.Listing.{Listing, no_call, last-page, cut-page, full-page}
use Rattle.walk.proofs.Paging.{Outcome, all-rows, full-page as full, limit-met, no_room, page-outcome, room-some, rooms-fit}
use Rattle.walk.proofs.Shown.{book-shows, page-goes}
use Rattle.talk.specs.declared.refusals.Refused.{Refused}
use Rattle.listing.specs.declared.whole.End.{End}
use Rattle.listing.specs.declared.whole.End.TheVariants.{Ended, Stopped}
use Rattle.listing.specs.declared.whole.Step.{Step}
use Rattle.listing.specs.declared.whole.Step.TheVariants.{Goes, Done}
use Rattle.listing.specs.Following.{told_at, refusal_of, atoms_only, Follows, Shown}

-- ---- the row that is kept

-- the last of so many rows lies within them
pub row_within : (count atoms size : ℕ) → 1 ≤ count → count * atoms ≤ size → (count - 1) * atoms + atoms ≤ size
row_within zero atoms size h k = absurd (omega arith)
row_within (suc count) atoms size h k =
    let z : suc count - 1 ≡ count = omega arith in rw z (omega (arith, suc-mul count atoms))

-- nothing but zeros behind the kept row: it is the one that was shown
pub row_same : (n : ℕ) (row kept : List ℕ) → n ≤ length row → SameRow (drop n kept) []
    → SameRow (take n row ++ drop n kept) (take n row)
row_same n row kept h zeros i =
    let e = length-take-le n row h in
    ⊎_elim (λ l. get_or-append (take n row) (drop n kept) 0 i (omega arith))
    (λ l. let z : length (take n row) + (i - n) ≡ i = omega arith in
    rw z at (get_or-append-add (take n row) (drop n kept) (i - n) 0) ∙ zeros (i - n)
    ∙ sym (get_or-eq_default (take n row) 0 {n = i} (omega arith)))
    (lt-or-le i n)

pub row_kept : (count atoms : ℕ) (rows kept row : List ℕ) → 1 ≤ count → count * atoms ≤ length rows → SameRow (drop atoms kept) []
    → row ≡ take atoms (drop ((count - 1) * atoms) rows) ++ drop atoms kept
    → SameRow row (take atoms (drop ((count - 1) * atoms) rows))
row_kept count atoms rows kept row h k zeros e =
    let from = (count - 1) * atoms in
    let long = row_within count atoms (length rows) h k in
    let left = length-drop from rows in
    subst (λ (l : List ℕ). SameRow l (take atoms (drop from rows))) (sym e) (row_same atoms (drop from rows) kept (omega arith) zeros)

pub zeros-behind : (n : ℕ) (row before : List ℕ) → SameRow row (take n before) → SameRow (drop n row) []
zeros-behind n row before same i = get_or-drop n row i 0 ∙ same (n + i)
    ∙ get_or-eq_default (take n before) 0 {n = n + i} (omega (arith, length-take-most n before))
  where
    length-take-most : (k : ℕ) (l : List ℕ) → length (take k l) ≤ k
    length-take-most zero l = omega arith
    length-take-most (suc k) [] = omega arith
    length-take-most (suc k) (x ∷ l) = omega (arith, length-take-most k l)

pub zeros-at-first : (n k : ℕ) → SameRow (drop n (replicate k 0)) []
zeros-at-first n k i = get_or-drop n (replicate k 0) i 0 ∙ ⊎_elim (λ l. get_or-replicate k (n + i) 0 0 l)
    (λ l. get_or-eq_default (replicate k 0) 0 {n = n + i} (omega (arith, length-replicate {A = ℕ} k 0))) (lt-or-le (n + i) k)

-- ---- the rows of a full page

room_most : (atoms size : ℕ) → room_in (atoms_only atoms) size ≤ size + 1
unfolding room_in
room_most atoms size =
    eq-either (λ (m : ℕ). m ≤ size + 1) _ _ _ _ (λ e. omega arith) (λ e. omega (arith, div-le_self size atoms))

pub room-count : (atoms size count : ℕ) → count ≡ room_in (atoms_only atoms) size → atoms ≤ size
    → (1 ≤ count) × (count * atoms ≤ size) × (count ≤ size + 1)
room-count atoms size count e h =
    rw e (room-some (atoms_only atoms) size h, rooms-fit (atoms_only atoms) size, room_most atoms size)

-- ---- what a call for a page makes of a listing

module _ (atoms before size : ℕ) (row : List ℕ) {A : Answered PageEnd} (x : Result Page NoPage) {buffer : List ℕ}
    (e : record { told = told x; buffer = buffer } ≡ A) where
  tells : {t : Told PageEnd} → told x ≡ t → A.told ≡ t
  tells f = sym (ap (λ (a : Answered PageEnd). a.told) e) ∙ f

  pub follows-whole : {more sets count : ℕ} → x ≡ Ok (Whole more) → length buffer ≡ size → count ≡ room_in (atoms_only atoms) (length buffer)
      → sets ≡ before + count → SameRow row (take atoms (drop ((count - 1) * atoms) buffer))
      → Follows atoms before size A row (Ok (Goes sets more))
  unfolding Follows
  follows-whole {more} {sets} {count} f l c s same =
      let all : count ≡ room_in (atoms_only atoms) size = c ∙ ap (room_in (atoms_only atoms)) l in (
        tells (ap told f),
        s ∙ ap (λ (n : ℕ). before + n) all,
        subst (λ (n : ℕ). SameRow row (take atoms (drop ((n - 1) * atoms) A.buffer))) all
            (subst (λ (a : Answered PageEnd). SameRow row (take atoms (drop ((count - 1) * atoms) a.buffer))) e same),
      )

  pub follows-last : {all rows sets : ℕ} → x ≡ Ok (Last all rows) → sets ≡ before + rows
      → Follows atoms before size A row (Ok (Done (Ended sets all)))
  unfolding Follows
  follows-last f s = (_, tells (ap told f), s)

  pub follows-cut : {rows sets : ℕ} → x ≡ Ok (Cut rows) → sets ≡ before + rows → Follows atoms before size A row (Ok (Done (Stopped sets)))
  unfolding Follows
  follows-cut f s = (_, tells (ap told f), s)

  pub follows-refused : {why : NoPage} (f : Refused) → x ≡ Err why → told (Err why) ≡ refusal_of f → Follows atoms before size A row (Err f)
  unfolding Follows
  follows-refused f g h = tells (ap told g ∙ h)

-- ---- each row of a full page has a try

readings-few : (b : Book) (es : List Event) → length (readings_in b es) ≤ length es
unfolding readings_in
readings-few b [] = omega arith
readings-few b (clash r ∷ es) = omega (arith, readings-few b es)
readings-few b (fork r ∷ es) = omega (arith, readings-few b es)
readings-few b (reading d ∷ es) = omega (arith, readings-few b es)
readings-few b (quiet ∷ es) = omega (arith, readings-few b es)

whole-adds : (b : Book) (limit n : ℕ) (row out : List ℕ) {todo : List Event} {A : Answered PageEnd} → Outcome b limit n row out todo A
    → (t : ℕ) → A.told ≡ success (whole t) → (n + room_in b (length out) ≤ t) × (t ≤ limit)
whole-adds b limit n row out (all-rows h k) t e = apart (cc)
whole-adds b limit n row out (full more d later q h k) t e =
    let z : n + length more + 1 ≡ t = cc in let f = readings-few b more in (omega arith, omega arith)
whole-adds b limit n row out (limit-met more f later q h k) t e = apart (cc)
whole-adds b limit n row out (no_room h) t e = apart (cc)

refusal-apart : (f : Refused) {t : PageEnd} {x : Told PageEnd} → x ≡ success t → x ≡ refusal_of f → ⊥
refusal-apart f p q = told-apart f.number f.place p q
  where
    told-apart : (n : ℕ) (place : Option ℕ) {t : PageEnd} {x : Told PageEnd} → x ≡ success t → x ≡ told_at n place → ⊥
    told-apart n (Some at) {t} p q = let z : success t ≡ refused_at n at = sym p ∙ q in apart (cc)
    told-apart n None {t} p q = let z : success t ≡ refused n = sym p ∙ q in apart (cc)

-- ---- the pages of one listing

rows-count : (n m : ℕ) (bytes : List ℕ) → length (rows_in n m bytes) ≡ m
unfolding rows_in
rows-count n zero bytes = refl
rows-count n (suc m) bytes = ap suc (rows-count n m (drop n bytes))

-- a listing goes on behind any row that is the same
listing-same : {page : ℕ → List ℕ → List ℕ → Answered PageEnd} {b : Book} {n : ℕ} {row before : List ℕ} {shown : List (List ℕ)}
    {ending : Ending} → SameRow row before → Listing page b n row shown ending → Listing page b n before shown ending
listing-same same no_call = no_call
listing-same same (last-page row out all rows k e) = last-page row out all rows (λ i. k i ∙ same i) e
listing-same same (cut-page row out rows k e) = cut-page row out rows (λ i. k i ∙ same i) e
listing-same same (full-page row out more k e rest) = full-page row out more (λ i. k i ∙ same i) e rest

-- so many readings are listed, with so many tries, and the row is the last one shown: whatever the listing shows from here on, it shows
-- from the start behind the rows shown so far
pub record SoFar (s : List ℕ) (limit : ℕ) (first : List ℕ) (before tries : ℕ) (row : List ℕ) : Type 0 where
  pub few : before ≤ tries
  pub within : tries ≤ limit
  pub zeros : SameRow (drop (book_in s).atoms row) []
  pub shown : List (List ℕ)
  pub listed : before ≡ length shown
  pub goes : (more : List (List ℕ)) (ending : Ending) → Listing (page_of s limit) (book_in s) tries row more ending
      → Listing (page_of s limit) (book_in s) 0 first (shown ++ more) ending

pub so-far-start : (s : List ℕ) (limit k : ℕ) → SoFar s limit (replicate k 0) 0 0 (replicate k 0)
so-far-start s limit k = record {
  few = omega arith;
  within = omega arith;
  zeros = zeros-at-first (book_in s).atoms k;
  shown = [];
  listed = refl;
  goes = λ more ending l. l;
}

module _ (s : List ℕ) (shape : Shape) (Good-book : ReadAs s shape) (limit : ℕ) where
  page-good : (n : ℕ) (row out : List ℕ) → page_of s limit n row out ≡ page_in (book_in s) limit n row out
  unfolding page_of page_read book_in book_of
  page-good n row out = rw (told-good (read_of s) _ _ _ Good-book)

  module _ {first : List ℕ} {before tries : ℕ} {row : List ℕ} (f : SoFar s limit first before tries row) (out kept : List ℕ)
      (room : (book_in s).atoms ≤ length out) where
    abbrev page : Answered PageEnd
    page = page_of s limit tries row out

    -- the rows so far and so many rows of the page
    rows-listed : (m sets : ℕ) → sets ≡ before + m → sets ≡ length (f.shown ++ rows_in (book_in s).atoms m page.buffer)
    rows-listed m sets e =
        omega (
          arith,
          f.listed,
          length-append f.shown (rows_in (book_in s).atoms m page.buffer),
          rows-count (book_in s).atoms m page.buffer,
        )

    same_step : {atoms : ℕ} {one other : Result Step Refused} → atoms ≡ (book_in s).atoms → one ≡ other
        → Follows atoms before (length out) page kept one → Follows (book_in s).atoms before (length out) page kept other
    same_step {atoms} {one} e g h =
        subst (λ (step : Result Step Refused). Follows (book_in s).atoms before (length out) page kept step) g
        (subst (λ (n : ℕ). Follows n before (length out) page kept one) e h)

    goes-more : {sets more : ℕ} → Follows (book_in s).atoms before (length out) page kept (Ok (Goes sets more))
        → SoFar s limit first sets more kept × (tries < more)
    unfolding Follows room_in
    goes-more {sets} {more} (answer, sum, same) =
        let b = book_in s in
        let told_in : (page_in b limit tries row out).told ≡ success (whole more) =
        ap (λ (a : Answered PageEnd). a.told) (sym (page-good tries row out)) ∙ answer in
        let (adds, most) = whole-adds b limit tries row out (page-outcome b limit tries row out f.within) more told_in in
        let some = room-some b (length out) room in
        let rows = rows_in b.atoms (room_in b (length out)) page.buffer in
        let fewer = f.few in (
          record {
            few = omega arith;
            within = most;
            zeros = zeros-behind b.atoms kept _ same;
            shown = f.shown ++ rows;
            listed = rows-listed (room_in b (length out)) sets sum;
            goes = λ later ending l.
                subst (λ (rows : List (List ℕ)). Listing (page_of s limit) b 0 first rows ending)
                (sym (append_assoc f.shown rows later))
                (f.goes (rows ++ later) ending (full-page row out more (λ i. refl) answer (listing-same same l)));
          },
          omega arith,
        )

    done-shown : Bytes s → (end : End) → Follows (book_in s).atoms before (length out) page kept (Ok (Done end)) → Shown (book_in s) limit (Ok end)
    unfolding Follows Shown Shows
    done-shown bytes (Ended sets all) (rows, answer, sum) =
        let (shows, tries, within) =
        book-shows s _ _ _ _ (told-good (read_of s) _ _ _ Good-book) limit bytes first
        (f.goes _ _ (last-page row out all rows (λ i. refl) answer)) in
        (rows-listed rows sets sum ∙ ap length shows ∙ length-map (readings (book_in s)) (row_of (book_in s)), tries, within)
    done-shown bytes (Stopped sets) (rows, answer, sum) =
        let (shows, longer) =
        book-shows s _ _ _ _ (told-good (read_of s) _ _ _ Good-book) limit bytes first
        (f.goes _ _ (cut-page row out rows (λ i. refl) answer)) in
        (rows-listed rows sets sum ∙ ap length shows, longer)

    refused-shown : (refusal : Refused) → Follows (book_in s).atoms before (length out) page kept (Err refusal) → Shown (book_in s) limit (Err refusal)
    unfolding Follows Shown
    refused-shown refusal answer =
        let told_in = ap (λ (a : Answered PageEnd). a.told) (sym (page-good tries row out)) ∙ answer in
        ⊎_elim (λ g. refusal-apart refusal g.1 told_in)
        (⊎_elim (λ g. refusal-apart refusal g.2 told_in) (λ g. refusal-apart refusal g.1 told_in))
        (page-goes (book_in s) limit tries row out f.within room)

    -- another page follows
    pub so_far_more : {atoms sets more : ℕ} {step : Result Step Refused} → atoms ≡ (book_in s).atoms → step ≡ Ok (Goes sets more)
        → Follows atoms before (length out) page kept step → SoFar s limit first sets more kept × (tries < more)
    so_far_more e g h = goes-more (same_step e g h)

    -- the listing is at its end
    pub so-far-done : {atoms : ℕ} {end : End} {step : Result Step Refused} → atoms ≡ (book_in s).atoms → step ≡ Ok (Done end)
        → Follows atoms before (length out) page kept step → Bytes s → Shown (book_in s) limit (Ok end)
    so-far-done {end = end} e g h bytes = done-shown bytes end (same_step e g h)

    -- it is never refused
    pub so-far-refused : {atoms : ℕ} {refusal : Refused} {step : Result Step Refused} → atoms ≡ (book_in s).atoms → step ≡ Err refusal
        → Follows atoms before (length out) page kept step → Shown (book_in s) limit (Err refusal)
    so-far-refused {refusal = refusal} e g h = refused-shown refusal (same_step e g h)
