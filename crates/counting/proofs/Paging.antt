-- The count goes on page by page (src/pages.rt): a full page is counted and the count goes on behind its last row, the last page ends it, and
-- where the limit cuts a page the whole walk needs more tries. It rests on the laws of a listing (walk/proofs/Listing). Where the count
-- starts and what it answers is in Counting.
use Rattle.std.proofs.Common.{◌≡◌, ℕ, zero, suc, ◌+◌, ◌-◌, ◌*◌, ◌/◌, ◌<◌, ◌≤◌, List, ◌++◌, length, get_or, take, drop, sym, ap, ◌∙◌, ⊎_elim, mul-le-mul_right, suc-mul, arith, length-append, length-drop, take-append-drop, length-take-le, take_at, drop_at}
use Rattle.std.specs.Prelude.{Result, Ok, Err}
use Rattle.meaning.specs.Books.{atom_no, Book, count}
use Rattle.meaning.specs.Choice.{if_eq}
use Rattle.meaning.specs.Told.{success, Answered}
use Rattle.meaning.specs.Written.{nothing}
use Rattle.meaning.proofs.LeastModel.{Proper}
use Rattle.meaning.proofs.Tests.{apart}
use Rattle.book.specs.declared.reader.Shape.{Shape}
use Rattle.book.specs.Format.{read_of, book_in, ReadAs}
use Rattle.book.proofs.Shapes.{told-good}
use Rattle.book.proofs.Places.{shape-atoms, shape-count, rule-keeps, in-shape}
use Rattle.walk.specs.Events.{Event, events}
use Rattle.walk.specs.Readings.{readings_in, readings}
use Rattle.walk.specs.Page.{PageEnd, set_in, events_from, room_in, told, page_in, page_of}
use Rattle.walk.specs.Listing.{last_row}
use Rattle.walk.specs.declared.page_answer.Page.{Page}
use Rattle.walk.specs.declared.page_answer.Page.TheVariants.{Whole, Last, Cut}
use Rattle.walk.specs.declared.page_answer.NoPage.{NoPage}
use Rattle.walk.specs.declared.page_answer.NoPage.TheVariants.{Book as BadBook, NoRoom}
use Rattle.walk.proofs.Rows.{rows_of, rows-length}
use Rattle.walk.proofs.Readings.{readings-append}
use Rattle.walk.proofs.Needs.{amount}
use Rattle.walk.proofs.Paging.{filled, room-some, rooms-fit}
use Rattle.walk.proofs.Listing.{Listed, listed-readings, Joined, pages-join, pages-end, pages-stop}
use Rattle.walk.proofs.Shown.{page-good-book, page-goes}
use Rattle.counting.specs.Counts.{standings}
use Rattle.counting.specs.SoFar.{sets_in, summed, readings_up_to, SoFar, AllCounted}
use Rattle.counting.proofs.Standing.{standing-at-most}
use Rattle.counting.proofs.PageRows.{sets-at-most-tries, page-standing, counts-at, counts-more, summed-length}

-- ---- the walk behind some events

module _ (es done later : List Event) (t : ℕ) (w : es ≡ done ++ later) (e : t ≡ length done) where
  front-is : take t es ≡ done
  front-is = rw w (take_at done later t (sym e))

  rest-is : drop t es ≡ later
  rest-is = rw w (drop_at done later t (sym e))

  front_fits : t ≤ length es
  front_fits = omega (arith, e, ap length w, length-append done later)

row-front : (m n : ℕ) → 1 ≤ m → m * n - n ≡ (m - 1) * n
row-front zero n h = absurd (omega arith)
row-front (suc m) n h = let z : suc m - 1 ≡ m = omega arith in omega (arith, suc-mul m n, ap (λ (k : ℕ). k * n) z)

-- what is asked before m rows are added
pub record Addable (atoms limit sets : ℕ) (counts : List ℕ) (m : ℕ) : Type 0 where
  pub fits : m * atoms ≤ 65280
  pub sum : sets + m ≤ limit
  pub each : (i : ℕ) → i < atoms → get_or counts i 0 + m ≤ limit

-- ---- a good book

module _ (s : List ℕ) (h : Shape) (e : ReadAs s h) where
  abbrev b : Book
  b = book_in s

  heads-proper : Proper b
  heads-proper r g = omega (arith, shape-atoms s h e, (rule-keeps s h e r (in-shape s h e r g)).head)

  room-is : {full : ℕ} → full ≡ if_eq h.atoms 0 1 (65280 / h.atoms) → full ≡ room_in b 65280
  unfolding room_in
  room-is f = f ∙ ap (λ (a : ℕ). if_eq a 0 1 (65280 / a)) (sym (shape-atoms s h e))

  module _ (small : (h.atoms < 256) × (h.rules < 256)) where
    few-atoms : h.atoms ≤ 255
    few-atoms = omega arith

    few : count b ≤ 255
    few = omega (arith, shape-count s h e, small.1)

    module _ {limit sets tries : ℕ} {row_before counts : List ℕ} (f : SoFar b limit sets tries row_before counts) (rows : List ℕ)
        (long : length rows ≡ 65280) (p : Result Page NoPage) {page : List ℕ}
        (g : ◌≡◌ {A = Answered PageEnd} (record { told = told p; buffer = page }) (page_of s limit tries row_before rows)) where
      abbrev done : List Event
      done = take tries (events b nothing)

      abbrev todo : List Event
      todo = drop tries (events b nothing)

      listed : Listed b tries row_before done todo
      listed = record {
        walk = sym (take-append-drop tries (events b nothing));
        tries = sym (length-take-le tries (events b nothing) f.made);
        next = f.next;
      }

      paged : ◌≡◌ {A = Answered PageEnd} (record { told = told p; buffer = page }) (page_in b limit tries row_before rows)
      paged = g ∙ page-good-book s _ _ _ _ (told-good (read_of s) _ _ _ e) limit tries row_before rows

      page-told : (page_in b limit tries row_before rows).told ≡ told p
      page-told = ap (λ (a : Answered PageEnd). a.told) (sym paged)

      page-bytes : page ≡ (page_in b limit tries row_before rows).buffer
      page-bytes = ap (λ (a : Answered PageEnd). a.buffer) paged

      count-at-most : (i : ℕ) → i < h.atoms → get_or counts i 0 ≤ sets
      count-at-most i k = omega (
        arith,
        counts-at b.atoms counts (readings_up_to b tries) f.each i (rw (shape-atoms s h e) k),
        standing-at-most (atom_no i) (readings_up_to b tries),
        f.number,
      )

      -- the counts with those of a page that holds the readings of some events
      added-each : (es : List Event) {m : ℕ} {added : List ℕ} → m ≡ amount b es → page ≡ filled b rows (readings_in b es)
          → added ≡ summed h.atoms counts (sets_in h.atoms m page)
          → take b.atoms added ≡ standings b.atoms (readings_in b done ++ readings_in b es)
      added-each es {m} k w a =
          ap (take b.atoms) (a ∙ ap (λ (n : ℕ). summed n counts (sets_in n m page)) (sym (shape-atoms s h e)))
          ∙ counts-more b.atoms counts (readings_up_to b tries) f.each (sets_in b.atoms m page) (readings_in b es) (λ i z. page-standing b i z rows es k w)

      -- ---- a full page

      module _ {t : ℕ} (w : p ≡ Ok (Whole t)) {full : ℕ} (r : full ≡ if_eq h.atoms 0 1 (65280 / h.atoms)) where
        joined : Joined b (room_in b (length rows)) rows done todo t (page_in b limit tries row_before rows).buffer × (t ≤ limit)
        joined = pages-join b few limit tries row_before rows f.within listed heads-proper t (page-told ∙ ap told w)

        full_is : full ≡ room_in b (length rows)
        full_is = room-is r ∙ ap (room_in b) (sym long)

        full-rows : full ≡ amount b joined.0.more
        full-rows = full_is ∙ sym joined.0.rows

        next-walk : Listed b t (last_row b (room_in b (length rows)) (page_in b limit tries row_before rows).buffer) (done ++ joined.0.more)
            joined.0.later
        next-walk = joined.0.listed

        full-sum : sets + full ≡ amount b (done ++ joined.0.more)
        full-sum =
            ap (λ (k : ℕ). k + full) f.number ∙ ap (λ (k : ℕ). amount b done + k) full-rows
            ∙ sym (length-append (readings_in b done) (readings_in b joined.0.more))
            ∙ ap length (sym (readings-append b done joined.0.more))

        pub full-addable : Addable h.atoms limit sets counts full
        full-addable =
            let k : sets + full ≤ limit = omega (arith, full-sum, sets-at-most-tries b (done ++ joined.0.more), next-walk.tries, joined.1) in record {
              fits = rw (room-is r, ← shape-atoms s h e) (rooms-fit b 65280);
              sum = k;
              each = λ i m. omega (arith, k, count-at-most i m);
            }

        full-one : 1 ≤ full
        full-one = rw (room-is r) (room-some b 65280 (omega (arith, shape-atoms s h e, few-atoms)))

        pub full-row : h.atoms ≤ full * h.atoms
        full-row = omega (arith, mul-le-mul_right h.atoms full-one)

        last-is : {kept : List ℕ} → kept ≡ take h.atoms (drop (full * h.atoms - h.atoms) page)
            → kept ≡ last_row b (room_in b (length rows)) (page_in b limit tries row_before rows).buffer
        last-is q = q ∙ rw (row-front full h.atoms full-one, ← shape-atoms s h e, full_is, page-bytes)

        pub more-counted : length page ≡ 65280 → {kept added : List ℕ} → kept ≡ take h.atoms (drop (full * h.atoms - h.atoms) page)
            → added ≡ summed h.atoms counts (sets_in h.atoms full page) → SoFar b limit (sets + full) t kept added × (tries < t)
        more-counted page-long q a =
            let l = next-walk in let more = joined.0.more in let later = joined.0.later in
            let front = front-is (events b nothing) (done ++ more) later t l.walk l.tries in (
              record {
                within = joined.1;
                made = front_fits (events b nothing) (done ++ more) later t l.walk l.tries;
                next = rest-is (events b nothing) (done ++ more) later t l.walk l.tries ∙ l.next ∙ ap (λ (k : List ℕ). events_from b t (set_in k)) (sym (last-is q));
                number = full-sum ∙ ap (amount b) (sym front);
                each = added-each more full-rows (page-bytes ∙ joined.0.written) a ∙ ap (standings b.atoms)
                    (sym (readings-append b done more) ∙ ap (readings_in b) (sym front));
                last-long = ap length q ∙ length-take-le h.atoms _ (omega (
                  arith,
                  length-drop (full * h.atoms - h.atoms) page,
                  page-long,
                  full-row,
                  full-addable.fits,
                )) ∙ sym (shape-atoms s h e);
                counts-long = ap length a ∙ summed-length h.atoms counts _ few-atoms f.counts-long;
              },
              omega (
                arith,
                l.tries,
                length-append done more,
                length-take-le tries (events b nothing) f.made,
                sets-at-most-tries b more,
                full-rows,
                full-one,
              ),
            )

      -- ---- the last page

      module _ {t m : ℕ} (w : p ≡ Ok (Last t m)) (page-long : length page ≡ 65280) where
        ended : (t ≡ length (events b nothing)) × (t ≤ limit) × (m ≡ amount b todo)
            × ((page_in b limit tries row_before rows).buffer ≡ filled b rows (readings_in b todo))
        ended = pages-end b few limit tries row_before rows f.within listed t m (page-told ∙ ap told w)

        last-rows : page ≡ filled b rows (readings_in b todo)
        last-rows = page-bytes ∙ ended.3

        last_sum : sets + m ≡ length (readings b)
        last_sum = omega (
          arith,
          f.number,
          ended.2,
          ap length (listed-readings b tries row_before done todo listed),
          length-append (readings_in b done) (readings_in b todo),
        )

        last-sum-fits : sets + m ≤ limit
        last-sum-fits = omega (arith, last_sum, sets-at-most-tries b (events b nothing), ended.0, ended.1)

        pub last-addable : Addable h.atoms limit sets counts m
        last-addable = record {
          fits = rw (← shape-atoms s h e, ended.2) (omega (
            arith,
            ap length last-rows,
            page-long,
            length-append (rows_of b (readings_in b todo)) (drop (length (rows_of b (readings_in b todo))) rows),
            rows-length b (readings_in b todo),
          ));
          sum = last-sum-fits;
          each = λ i k. omega (arith, last-sum-fits, count-at-most i k);
        }

        pub all-counted : {added : List ℕ} → added ≡ summed h.atoms counts (sets_in h.atoms m page) → AllCounted b limit (sets + m) added
        all-counted a = record {
          within = omega (arith, ended.0, ended.1);
          number = last_sum;
          each = added-each todo ended.2 last-rows a
              ∙ ap (standings b.atoms) (sym (listed-readings b tries row_before done todo listed));
          counts-long = ap length a ∙ summed-length h.atoms counts _ few-atoms f.counts-long;
        }

      -- ---- the limit

      pub cut-longer : {m : ℕ} → p ≡ Ok (Cut m) → limit < length (events b nothing)
      cut-longer w = (pages-stop b few limit tries row_before rows f.within listed _ (page-told ∙ ap told w)).longer

      -- a good book has room for a row, so that its page is no refusal
      never-refused : {A : Type 0} → ((x : PageEnd) → told p ≡ success x → ⊥) → A
      never-refused n = absurd (⊎_elim (λ (t, q, k, z). n _ (sym page-told ∙ q))
          (λ o. ⊎_elim (λ (t, m, q). n _ (sym page-told ∙ q)) (λ (m, q). n _ (sym page-told ∙ q)) o)
          (page-goes b limit tries row_before rows f.within (omega (arith, long, shape-atoms s h e, few-atoms))))

      pub never : {A : Type 0} (why : NoPage) → p ≡ Err why → A
      never (BadBook f) w = never-refused (λ x q. let z = sym (ap told w) ∙ q in apart (cc))
      never NoRoom w = never-refused (λ x q. let z = sym (ap told w) ∙ q in apart (cc))
