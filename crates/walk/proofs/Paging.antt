-- A page of a listing (specs/Page): the rows of the next readings, until the room is full, the walk is at its end or the limit is met. A
-- listing goes on where the page before ended, so that its pages together are the readings of one walk, with the tries of one walk. A
-- refusal keeps the buffer.
use mathlib.Core.Path.{◌≡◌, refl, sym, ◌∙◌, ap, subst}
use mathlib.Core.Logic.{◌⊎◌, ⊎_elim}
use mathlib.Core.List.{List, [], ◌∷◌, ◌++◌}
use Prim.Native.Nat.{ℕ, ◌+◌, ◌*◌, ◌-◌, ◌≤◌, ◌<◌}
use native.Mathlib.Nat.{zero-add, zero-mul, one-mul, div-mul-le_self, le-div_iff_mul-le, mul-le-mul_right}
use native.Mathlib.Omega.{arith}
use lib.ListN.{length, drop}
use Rattle.meaning.specs.Written.{Tables}
use Rattle.meaning.specs.Books.{Atoms, Book}
use Rattle.meaning.specs.Told.{success, refused_at, refused, Answered}
use Rattle.meaning.proofs.Choice.{lt-either, eq-either}
use Rattle.book.specs.Format.{BookRead, good, bad, read_of}
use Rattle.walk.specs.Events.{Event, reading}
use Rattle.walk.specs.Readings.{readings_in}
use Rattle.meaning.specs.Buffers.{write_at}
use Rattle.walk.specs.Run.{Wanted, State}
use Rattle.walk.specs.Find.{start_at}
use Rattle.walk.specs.Page.{PageEnd, whole, last, cut, set_in, events_from, room_in, ended_by, paged_by}
use Rattle.walk.specs.Page.{page_in, page_read, page_of}
use Rattle.meaning.proofs.Buffers.{write-front}
use Rattle.meaning.proofs.Tests.{apart}
use Rattle.walk.proofs.Rows.{rows_of, rows-length}
use Rattle.walk.proofs.Way.{step, gone, gone-append, gone-tries, gone-sets, gone-writes, Way, to_end, to-full, to-limit, way}
use Rattle.walk.proofs.Needs.{amount, amount-last}

-- ---- the room of a page

pub room-some : (b : Book) (n : ℕ) → b.atoms ≤ n → 1 ≤ room_in b n
unfolding room_in
room-some b n h = eq-either (λ (m : ℕ). 1 ≤ m) _ _ _ _ (λ e. omega arith)
    (λ e. (le-div_iff_mul-le {k = b.atoms} {x = 1} {y = n} (omega arith)).1 (rw one-mul h))

pub rooms-fit : (b : Book) (n : ℕ) → room_in b n * b.atoms ≤ n
unfolding room_in
rooms-fit b n = eq-either (λ (m : ℕ). m * b.atoms ≤ n) _ _ _ _ (λ e. rw (e, one-mul) (omega arith)) (λ e. div-mul-le_self n b.atoms)

-- the buffer with the rows of some sets in front
abbrev pub filled : Book → List ℕ → List Atoms → List ℕ
filled b out l = rows_of b l ++ drop (length (rows_of b l)) out

module _ (b : Book) (limit n : ℕ) (row out : List ℕ) where
  -- how a call may end, with what it answers, by the events that are to come
  pub data Outcome (todo : List Event) : Answered PageEnd → Type 0 where
    all-rows : n + length todo ≤ limit → amount b todo < room_in b (length out)
        → Outcome todo (record { told = success (last (n + length todo) (amount b todo)); buffer = filled b out (readings_in b todo) })
    full-page : (more : List Event) (d : Tables) (later : List Event) → todo ≡ more ++ (reading d ∷ later)
        → n + length more < limit → amount b more + 1 ≡ room_in b (length out)
        → Outcome todo (record { told = success (whole (n + length more + 1)); buffer = filled b out (readings_in b (more ++ (reading d ∷ []))) })
    limit-met : (more : List Event) (e : Event) (later : List Event) → todo ≡ more ++ (e ∷ later)
        → limit ≡ n + length more → amount b more < room_in b (length out)
        → Outcome todo (record { told = success (cut (amount b more)); buffer = filled b out (readings_in b more) })
    no_room : length out < b.atoms → Outcome todo (record { told = refused 8; buffer = out })

  abbrev wanted : Wanted
  wanted = record { pass = 0; room = room_in b (length out); limit = limit }

  abbrev start : State
  start = start_at n out

  -- some events on, the rows of their readings stand in front
  gone-filled : (es : List Event) → amount b es ≤ room_in b (length out) → (gone b wanted start es).out ≡ filled b out (readings_in b es)
  gone-filled es h =
      let l = rows_of b (readings_in b es) in
      let z = rows-length b (readings_in b es) in let k = mul-le-mul_right b.atoms h in let f = rooms-fit b (length out) in
      let p : (0 - 0) * b.atoms ≡ 0 = zero-mul b.atoms in
      gone-writes b wanted start es (omega arith) (omega arith) ∙ ap (λ (i : ℕ). write_at i l out) p ∙ write-front l out

  full-filled : (more : List Event) (d : Tables) → amount b (more ++ (reading d ∷ [])) ≤ room_in b (length out)
      → (step b wanted (gone b wanted start more) (reading d)).out ≡ filled b out (readings_in b (more ++ (reading d ∷ [])))
  unfolding gone
  full-filled more d h = ap (λ (s : State). s.out) (sym (gone-append b wanted start more (reading d ∷ []))) ∙ gone-filled _ h

  outcome-of : (es : List Event) (t : State) → Way b wanted start es t → Outcome es (paged_by t)
  unfolding ended_by step
  outcome-of es t (to_end h o) =
      let u = gone-tries b wanted start es in let v = gone-sets b wanted start es ∙ zero-add _ in
      let f = gone-filled es (omega arith) in
      subst (Outcome es) (λ i. record { told = success (last (sym u i) (sym v i)); buffer = sym f i }) (all-rows (omega arith) (omega arith))
  outcome-of es t (to-full more d later h e) =
      let u = gone-tries b wanted start more in let v = gone-sets b wanted start more ∙ zero-add _ in
      let f = full-filled more d (omega (arith, amount-last b more d)) in
      subst (Outcome (more ++ (reading d ∷ later))) (λ i. record { told = success (whole (sym u i + 1)); buffer = sym f i })
      (full-page more d later refl (omega arith) (omega arith))
  outcome-of es t (to-limit more e later h o) =
      let u = gone-tries b wanted start more in let v = gone-sets b wanted start more ∙ zero-add _ in
      let f = gone-filled more (omega arith) in
      subst (Outcome (more ++ (e ∷ later))) (λ i. record { told = success (cut (sym v i)); buffer = sym f i })
      (limit-met more e later refl (omega arith) (omega arith))

  pub page-outcome : n ≤ limit → Outcome (events_from b n (set_in row)) (page_in b limit n row out)
  unfolding page_in
  page-outcome h = lt-either (Outcome (events_from b n (set_in row))) _ _ _ _ no_room (λ l.
      let some = room-some b (length out) l in
      outcome-of _ _ (way b wanted some start _ refl h (omega arith)))

-- ---- nothing is written on a refusal

module _ (i at : ℕ) where
  -- the number i is told, with a place or without one
  abbrev Refuses : Answered PageEnd → Type 0
  Refuses a = (a.told ≡ refused_at i at) ⊎ (a.told ≡ refused i)

  walked : {A : Type 0} (s : State) → Refuses (paged_by s) → A
  walked s = ⊎_elim (λ e. apart (cc)) (λ e. apart (cc))

  module _ (limit n : ℕ) (row out : List ℕ) where
    keeps-in : (b : Book) → Refuses (page_in b limit n row out) → (page_in b limit n row out).buffer ≡ out
    unfolding page_in
    keeps-in b = lt-either (λ (a : Answered PageEnd). Refuses a → a.buffer ≡ out) _ _ _ _ (λ h r. refl) (λ h r. walked _ r)

    -- 1 to 7 and 8: the buffer is as it was
    pub page-keeps : (book : List ℕ)
        → ((page_of book limit n row out).told ≡ refused_at i at) ⊎ ((page_of book limit n row out).told ≡ refused i)
        → (page_of book limit n row out).buffer ≡ out
    unfolding page_of page_read
    page-keeps book = go (read_of book)
      where
        go : (x : BookRead) → Refuses (page_read x limit n row out) → (page_read x limit n row out).buffer ≡ out
        go (good m k index l) r = keeps-in (record { atoms = m; rules = l }) r
        go (bad j place) r = refl
