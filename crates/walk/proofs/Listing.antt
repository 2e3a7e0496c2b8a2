-- A listing page by page (blueprint W7): a page goes on exactly where the page before ended, so that the pages' rows, one after the other,
-- are the readings of one walk, each once, and the tries at the end are those of one walk.
use mathlib.Core.Path.{◌≡◌, refl, sym, ◌∙◌, ap, subst}
use mathlib.Core.List.{List, [], ◌∷◌, ◌++◌, append_assoc}
use Prim.Native.Nat.{ℕ, zero, suc, ◌+◌, ◌-◌, ◌≤◌, ◌<◌}
use native.Mathlib.Omega.{arith}
use lib.ListN.{length, length-append}
use lib.Seq.{append_snoc}
use Rattle.meaning.specs.Written.{Tables}
use Rattle.meaning.specs.Books.{Atoms, Book, count}
use Rattle.meaning.specs.Told.{success, Answered}
use Rattle.meaning.specs.Written.{nothing}
use Rattle.meaning.proofs.LeastModel.{Proper}
use Rattle.meaning.proofs.Tests.{apart}
use Rattle.walk.specs.Events.{Event, reading, events, rest}
use Rattle.walk.specs.Readings.{reading_of, readings_in, readings}
use Rattle.walk.specs.Run.{row_of}
use Rattle.walk.specs.Page.{PageEnd, whole, last, cut, set_in, events_from, room_in, page_in}
use Rattle.walk.specs.Listing.{last_row}
use Rattle.walk.proofs.Rows.{last_row-behind}
use Rattle.walk.proofs.Readings.{readings-append}
use Rattle.walk.proofs.Needs.{amount, amount-last}
use Rattle.walk.proofs.Rest.{rest-row}
use Rattle.walk.proofs.Paging.{filled, Outcome, all-rows, full-page, limit-met, no_room, page-outcome}

-- a listing that has come so far: the events done and to come, the tries made, and the last row, from which the next page goes on
pub record Listed (b : Book) (n : ℕ) (row : List ℕ) (done todo : List Event) : Type 0 where
  pub walk : events b nothing ≡ done ++ todo
  pub tries : n ≡ length done
  pub next : todo ≡ events_from b n (set_in row)

pub listed_start : (b : Book) (row : List ℕ) → Listed b 0 row [] (events b nothing)
unfolding events_from
listed_start b row = record { walk = refl; tries = refl; next = refl }

-- the rows so far and those to come are the readings
pub listed-readings : (b : Book) (n : ℕ) (row : List ℕ) (done todo : List Event) → Listed b n row done todo
    → readings b ≡ readings_in b done ++ readings_in b todo
listed-readings b n row done todo l = ap (readings_in b) l.walk ∙ readings-append b done todo

pub later-events : (b : Book) (n : ℕ) (x : Atoms) → 1 ≤ n → events_from b n x ≡ rest b nothing x
unfolding events_from
later-events b zero x h = absurd (omega arith)
later-events b (suc n) x h = refl

full-last-row : (b : Book) (out : List ℕ) (more : List Event) (d : Tables) (room : ℕ) → amount b more + 1 ≡ room
    → last_row b room (filled b out (readings_in b (more ++ (reading d ∷ [])))) ≡ row_of b (reading_of b d)
unfolding readings_in
full-last-row b out more d room e =
    let z : room - 1 ≡ amount b more = omega arith in
    rw (z, readings-append) (last_row-behind b (readings_in b more) (reading_of b d) _)

-- a full page of a listing: its rows are the next readings, and the listing goes on behind them
pub record Joined (b : Book) (room : ℕ) (out : List ℕ) (done todo : List Event) (t : ℕ) (buffer : List ℕ) : Type 0 where
  pub more : List Event
  pub later : List Event
  pub parted : todo ≡ more ++ later
  pub rows : amount b more ≡ room
  pub written : buffer ≡ filled b out (readings_in b more)
  pub listed : Listed b t (last_row b room buffer) (done ++ more) later

-- a page that the limit ended: its rows are the readings of the tries up to the limit, and the walk has more tries
pub record Cut (b : Book) (limit : ℕ) (out : List ℕ) (done todo : List Event) (m : ℕ) (buffer : List ℕ) : Type 0 where
  pub more : List Event
  pub later : List Event
  pub parted : todo ≡ more ++ later
  pub tries : limit ≡ length (done ++ more)
  pub longer : limit < length (events b nothing)
  pub rows : m ≡ amount b more
  pub written : buffer ≡ filled b out (readings_in b more)

module _ (b : Book) (fits : count b ≤ 255) (limit n : ℕ) (row out : List ℕ) where
  module _ {done todo : List Event} (l : Listed b n row done todo) where
    -- the page ended at the reading of d
    module _ (more : List Event) (d : Tables) (later : List Event) (q : todo ≡ more ++ (reading d ∷ later)) where
      full-walk : events b nothing ≡ (done ++ more) ++ (reading d ∷ later)
      full-walk = l.walk ∙ ap (λ (es : List Event). done ++ es) q ∙ sym (append_assoc done more (reading d ∷ later))

      full-listed : Proper b → amount b more + 1 ≡ room_in b (length out)
          → Listed b (n + length more + 1) (last_row b (room_in b (length out)) (filled b out (readings_in b (more ++ (reading d ∷ [])))))
          (done ++ (more ++ (reading d ∷ []))) later
      full-listed proper e = record {
        walk = full-walk ∙ simp append_assoc;
        tries = omega (arith, l.tries, length-append done (more ++ (reading d ∷ [])), length-append more (reading d ∷ []));
        next = rest-row b fits (done ++ more) d later full-walk proper
            ∙ ap (λ (r : List ℕ). rest b nothing (set_in r)) (sym (full-last-row b out more d (room_in b (length out)) e))
            ∙ sym (later-events b _ _ (omega arith));
      }

    whole-joins : {A : Answered PageEnd} → Outcome b limit n row out todo A → Proper b → (t : ℕ) → A.told ≡ success (whole t)
        → Joined b (room_in b (length out)) out done todo t A.buffer × (t ≤ limit)
    whole-joins (all-rows h k) proper t e = apart (cc)
    whole-joins (full-page more d later q h k) proper t e =
        let z : n + length more + 1 ≡ t = cc in (
          record {
            more = more ++ (reading d ∷ []);
            later = later;
            parted = q ∙ sym (append_snoc more (reading d) later);
            rows = amount-last b more d ∙ k;
            written = refl;
            listed = rw z at (full-listed more d later q proper k);
          },
          omega arith,
        )
    whole-joins (limit-met more f later q h k) proper t e = apart (cc)
    whole-joins (no_room h) proper t e = apart (cc)

    last-ends : {A : Answered PageEnd} → Outcome b limit n row out todo A → (t m : ℕ) → A.told ≡ success (last t m)
        → (t ≡ length (events b nothing)) × (t ≤ limit) × (m ≡ amount b todo) × (A.buffer ≡ filled b out (readings_in b todo))
    last-ends (all-rows h k) t m e =
        let u : n + length todo ≡ t = cc in let v : amount b todo ≡ m = cc in
        (omega (arith, l.tries, ap length l.walk, length-append done todo), omega arith, sym v, refl)
    last-ends (full-page more d later q h k) t m e = apart (cc)
    last-ends (limit-met more f later q h k) t m e = apart (cc)
    last-ends (no_room h) t m e = apart (cc)

    limit-cuts : {A : Answered PageEnd} → Outcome b limit n row out todo A → (m : ℕ) → A.told ≡ success (cut m)
        → Cut b limit out done todo m A.buffer
    limit-cuts (all-rows h k) m e = apart (cc)
    limit-cuts (full-page more d later q h k) m e = apart (cc)
    limit-cuts (limit-met more f later q h k) m e =
        let v : amount b more ≡ m = cc in
        record {
          more = more;
          later = f ∷ later;
          parted = q;
          tries = omega (arith, l.tries, length-append done more);
          longer = omega (arith, l.tries, ap length l.walk, length-append done todo, ap length q, length-append more (f ∷ later));
          rows = sym v;
          written = refl;
        }
    limit-cuts (no_room h) m e = apart (cc)

  -- ---- the pages of a listing

  module _ (within : n ≤ limit) {done todo : List Event} (l : Listed b n row done todo) where
    outcome : Outcome b limit n row out todo (page_in b limit n row out)
    outcome = subst (λ (es : List Event). Outcome b limit n row out es (page_in b limit n row out)) (sym l.next)
        (page-outcome b limit n row out within)

    -- a full page: the next readings, and the listing goes on behind them, within the limit
    pub pages-join : Proper b → (t : ℕ) → (page_in b limit n row out).told ≡ success (whole t)
        → Joined b (room_in b (length out)) out done todo t (page_in b limit n row out).buffer × (t ≤ limit)
    pages-join = whole-joins l outcome

    -- the last page: the readings that were to come, and the tries of the whole walk
    pub pages-end : (t m : ℕ) → (page_in b limit n row out).told ≡ success (last t m)
        → (t ≡ length (events b nothing)) × (t ≤ limit) × (m ≡ amount b todo)
        × ((page_in b limit n row out).buffer ≡ filled b out (readings_in b todo))
    pages-end = last-ends l outcome

    -- the limit: the readings up to it, of a walk that has more tries
    pub pages-stop : (m : ℕ) → (page_in b limit n row out).told ≡ success (cut m)
        → Cut b limit out done todo m (page_in b limit n row out).buffer
    pages-stop = limit-cuts l outcome
