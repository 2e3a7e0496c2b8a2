-- From what the code reads to what is answered (src/kth.rt, src/pages.rt): the book's bytes are read as good or refused, a walk starts with
-- room for its rows, and its tally tells what find and page tell.
use mathlib.Core.Path.{◌≡◌, refl, sym, ◌∙◌, ap}
use mathlib.Core.List.{List, []}
use Prim.Native.Nat.{ℕ, ◌*◌, ◌-◌, ◌/◌, ◌≤◌, ◌<◌}
use native.Mathlib.Nat.{one-mul}
use native.Mathlib.Omega.{arith}
use lib.ListN.{length}
use Rattle.meaning.specs.Written.{Tables}
use Rattle.meaning.specs.Books.{Atoms, Book}
use Rattle.meaning.specs.Choice.{if_eq}
use Rattle.meaning.specs.Told.{Told, success, refused_at, refused, Answered}
use Rattle.meaning.specs.Written.{nothing}
use Rattle.meaning.proofs.Choice.{lt_yes, lt_no, eq_yes, eq_no}
use Rattle.std.specs.Prelude.{Result, Ok, Err}
use Rattle.book.specs.declared.refusal.Refusal.{Refusal}
use Rattle.book.specs.declared.reader.Shape.{Shape}
use Rattle.book.specs.Numbers.{number_of, place_of, told as book_told}
use Rattle.book.specs.Format.{read_of, told_of, book_of, book_in, ReadAs}
use Rattle.book.proofs.Shapes.{told-good}
use Rattle.book.proofs.Verdict.{read_as, read-bad}
use Rattle.book.proofs.Places.{shape-atoms}
use Rattle.walk.specs.Events.{Event, events, rest}
use Rattle.walk.specs.Run.{Wanted, State, run}
use Rattle.walk.specs.Room.{Room}
use Rattle.walk.specs.Find.{told_by, start_at, start_of, answered_by, find_along, find_by}
use Rattle.walk.specs.Page.{PageEnd, ended_by, set_in, events_from, room_in, paged_by, page_in, page_read, page_of}
use Rattle.walk.specs.declared.tally.Halt.{Halt}
use Rattle.walk.specs.declared.tally.Halt.TheVariants.{Going, Full, Limit}
use Rattle.walk.specs.declared.tally.Tally.{Tally}
use Rattle.closing.specs.Left.{Shallow}
use Rattle.closing.proofs.Left.{shallow-nothing}
use Rattle.walk.proofs.Demand.{find-bad-book, find-good-book}
use Rattle.walk.proofs.Paging.{room-some, rooms-fit}
use Rattle.walk.proofs.Listing.{later-events}
use Rattle.walk.proofs.Walking.{few}

-- ---- the book

module _ (s : List ℕ) {x : Result Shape Refusal} (e : book_told x ≡ told_of (read_of s)) where
  pub find-refused : (walk : Book → List Event) (k limit : ℕ) (answer : List ℕ) {f : Refusal} → x ≡ Err f
      → record { told = refused_at (number_of f) (place_of f); buffer = answer } ≡ find_by walk s k limit answer
  find-refused walk k limit answer f = sym (find-bad-book walk s k limit answer _ _ (read-bad s e f))

  pub page-refused : (limit tries : ℕ) (row out : List ℕ) {f : Refusal} → x ≡ Err f
      → record { told = refused_at (number_of f) (place_of f); buffer = out } ≡ page_of s limit tries row out
  unfolding page_of page_read
  page-refused limit tries row out f = sym (rw (read-bad s e f))

  pub page-read : (limit tries : ℕ) (row out : List ℕ) {h : Shape} {p : Answered PageEnd} → x ≡ Ok h
      → p ≡ page_in (book_in s) limit tries row out → p ≡ page_of s limit tries row out
  unfolding page_of page_read book_in book_of
  page-read limit tries row out f g = g ∙ rw (told-good (read_of s) _ _ _ (read_as s e f))

-- ---- the start of a walk

pub room-start : (b : Book) (pass room tries : ℕ) (out : List ℕ) → 1 ≤ room → room * b.atoms ≤ length out
    → Room b pass room (start_at tries out)
room-start b pass room tries out h k = record { some = h; counts = omega arith; wanting = λ g. omega arith; fits = k }

pub shallow-start : (s : List ℕ) (h : Shape) → ReadAs s h → h.rules < 256 → {c : Tables} → c ≡ nothing → Shallow (book_in s) c
shallow-start s h e n f = rw f (shallow-nothing (book_in s) (few s h e n))

pub walk_from : (b : Book) (w : Wanted) (s : State) {c d : Tables} {u : State} → c ≡ d → u ≡ run b w s (events b c)
    → u ≡ run b w s (events b d)
walk_from b w s e f = f ∙ ap (λ (x : Tables). run b w s (events b x)) e

-- ---- find

pub any-buffer : (h : Halt) (t : Tally) (limit : ℕ) (o p : List ℕ) → told_by h (record { tally = t; out = o }) limit
    ≡ told_by h (record { tally = t; out = p }) limit
unfolding told_by
any-buffer Going t limit o p = refl
any-buffer Full t limit o p = refl
any-buffer Limit t limit o p = refl

module _ (s : List ℕ) (h : Shape) (e : ReadAs s h) where
  pub one-row : (out : List ℕ) → h.atoms ≤ length out → 1 * (book_in s).atoms ≤ length out
  one-row out l = rw (one-mul, shape-atoms s h e) l

  -- along the events of any walk
  module _ (walk : Book → List Event) (k limit : ℕ) (answer : List ℕ) where
    find-read : find_by walk s k limit answer ≡ find_along (book_in s) (walk (book_in s)) k limit answer
    find-read = find-good-book walk s k limit answer _ _ _ _ (told-good (read_of s) _ _ _ e)

    pub find-no-number : k ≡ 0 → record { told = refused 15; buffer = answer } ≡ find_by walk s k limit answer
    unfolding find_along
    find-no-number z = sym (find-read ∙ eq_yes _ _ _ _ z)

    module _ (n : k ≡ 0 → ⊥) where
      pub find-no-room : length answer < h.atoms → record { told = refused 8; buffer = answer } ≡ find_by walk s k limit answer
      unfolding find_along
      find-no-room l = sym (find-read ∙ eq_no _ _ _ _ n ∙ lt_yes _ _ _ _ (rw (shape-atoms s h e) l))

      pub find-walked : h.atoms ≤ length answer → {t : Tally} {out : List ℕ} {r : Told ℕ}
          → record { tally = t; out = out }
          ≡ run (book_in s) (record { pass = k - 1; room = 1; limit = limit }) (start_of answer) (walk (book_in s))
          → r ≡ told_by t.halt (record { tally = t; out = [] }) limit → record { told = r; buffer = out } ≡ find_by walk s k limit answer
      unfolding find_along
      find-walked l {t} {out} f g =
          rw (g ∙ any-buffer t.halt t limit [] out)
          (sym (find-read ∙ eq_no _ _ _ _ n ∙ lt_no _ _ _ _ (rw (shape-atoms s h e) l)
          ∙ ap (λ (u : State). answered_by u limit) (sym f)))

-- ---- page

page-any-buffer : (h : Halt) (t : Tally) (o p : List ℕ)
    → ended_by h (record { tally = t; out = o }) ≡ ended_by h (record { tally = t; out = p })
unfolding ended_by
page-any-buffer Going t o p = refl
page-any-buffer Full t o p = refl
page-any-buffer Limit t o p = refl

first-events : (b : Book) (n : ℕ) (x : Atoms) → n ≡ 0 → events_from b n x ≡ events b nothing
unfolding events_from
first-events b n x e = rw e

module _ (s : List ℕ) (h : Shape) (e : ReadAs s h) (tries : ℕ) (out : List ℕ) where
  abbrev start : State
  start = start_at tries out

  pub page-no-room : (limit : ℕ) (row : List ℕ) → length out < h.atoms
      → record { told = refused 8; buffer = out } ≡ page_in (book_in s) limit tries row out
  unfolding page_in
  page-no-room limit row l = sym (lt_yes _ _ _ _ (rw (shape-atoms s h e) l))

  module _ (l : h.atoms ≤ length out) {room : ℕ} (f : room ≡ if_eq h.atoms 0 1 (length out / h.atoms)) where
    room-is : room ≡ room_in (book_in s) (length out)
    unfolding room_in
    room-is = f ∙ ap (λ (a : ℕ). if_eq a 0 1 (length out / a)) (sym (shape-atoms s h e))

    -- what the walk and resuming ask
    pub page-room : h.rules < 256 → {c : Tables} → c ≡ nothing → Room (book_in s) 0 room start × Shallow (book_in s) c
    page-room n f = (
      room-start (book_in s) 0 room tries out (rw room-is (room-some (book_in s) (length out) (rw (shape-atoms s h e) l)))
          (rw room-is (rooms-fit (book_in s) (length out))),
      shallow-start s h e n f,
    )

    module _ (limit : ℕ) (row : List ℕ) where
      abbrev w : Wanted
      w = record { pass = 0; room = room; limit = limit }

      -- a walk from the start along the events of the page tells the page
      module _ {t : Tally} {o : List ℕ} {r : Told PageEnd} (k : r ≡ success (ended_by t.halt (record { tally = t; out = [] }))) where
        page-walked : record { tally = t; out = o } ≡ run (book_in s) w start (events_from (book_in s) tries (set_in row))
            → record { told = r; buffer = o } ≡ page_in (book_in s) limit tries row out
        unfolding page_in
        page-walked g =
            rw (k ∙ ap success (page-any-buffer t.halt t [] o))
            (sym (lt_no _ _ _ _ (rw (shape-atoms s h e) l) ∙ ap paged_by (rw (← room-is) (sym g))))

        pub page-first : {c : Tables} → c ≡ nothing → tries ≡ 0
            → record { tally = t; out = o } ≡ run (book_in s) w start (events (book_in s) c)
            → record { told = r; buffer = o } ≡ page_in (book_in s) limit tries row out
        page-first empty z g =
            page-walked (walk_from (book_in s) w start empty g
            ∙ ap (run (book_in s) w start) (sym (first-events (book_in s) tries (set_in row) z)))

        pub page-later : {c : Tables} → c ≡ nothing → (tries ≡ 0 → ⊥)
            → record { tally = t; out = o } ≡ run (book_in s) w start (rest (book_in s) c (set_in row))
            → record { told = r; buffer = o } ≡ page_in (book_in s) limit tries row out
        page-later empty n g =
            page-walked (g ∙ ap (λ (x : Tables). run (book_in s) w start (rest (book_in s) x (set_in row))) empty
            ∙ ap (run (book_in s) w start) (sym (later-events (book_in s) tries (set_in row) (omega arith))))
