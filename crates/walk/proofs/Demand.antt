-- Demand 2's "exactly"s, for what finding answers along the events of a walk: each is read off its outcome, and the outcomes exclude each
-- other because the tries that the walk needs are determined.
use mathlib.Core.Path.{◌≡◌, refl, sym, ◌∙◌, ap}
use mathlib.Core.Logic.{◌↔◌}
use mathlib.Core.List.{List, ◌++◌}
use Prim.Native.Nat.{ℕ, ◌≤◌, ◌<◌}
use native.Mathlib.Omega.{arith}
use lib.ListN.{length, drop}
use Rattle.meaning.specs.Books.{Atoms, Rule, Book, count}
use Rattle.meaning.specs.Told.{refused_at, fewer, stopped, Answered}
use Rattle.meaning.proofs.Rules.{rule-member}
use Rattle.meaning.proofs.LeastModel.{Proper}
use Rattle.meaning.proofs.Tests.{apart}
use Rattle.book.specs.Format.{good, bad, read_of, book_of, book_in}
use Rattle.book.specs.Rows.{Bytes}
use Rattle.book.proofs.Shapes.{good-fits}
use Rattle.walk.specs.Events.{Event}
use Rattle.walk.specs.Readings.{readings_in}
use Rattle.walk.specs.Tries.{Kth, Needs, to-reading, to_end, last_clash}
use Rattle.walk.specs.Run.{row_of}
use Rattle.walk.specs.Find.{set, find_along, find_read, find_by}
use Rattle.walk.proofs.Needs.{kth-count, kth-one, needs-one}
use Rattle.walk.proofs.Finding.{Outcome, found, too_few, too_long, no_number, no_room, find-outcome}

module _ {b : Book} {es : List Event} {k limit : ℕ} {answer : List ℕ} where
  -- ---- what an answer says of the walk

  set_says : {A : Answered ℕ} → Outcome b es k limit answer A → (t : ℕ) → A.told ≡ set t
      → (x : Atoms) × Kth b es k t x × (t ≤ limit) × (A.buffer ≡ row_of b x ++ drop b.atoms answer)
  set_says (found {t = u} {x = x} c h) t e = let z : u ≡ t = cc in (x, rw z at c, rw z at h, refl)
  set_says (too_few h l) t e = apart (cc)
  set_says (too_long n h) t e = apart (cc)
  set_says (no_number h) t e = apart (cc)
  set_says (no_room h l) t e = apart (cc)

  stopped-says : {A : Answered ℕ} → Outcome b es k limit answer A → A.told ≡ stopped limit → (n : ℕ) × Needs b es k n × (limit < n)
  stopped-says (found c h) e = apart (cc)
  stopped-says (too_few h l) e = apart (cc)
  stopped-says (too_long {n = n} m h) e = (n, m, h)
  stopped-says (no_number h) e = apart (cc)
  stopped-says (no_room h l) e = apart (cc)

  fewer-says : {A : Answered ℕ} → Outcome b es k limit answer A → (t n r : ℕ) → A.told ≡ fewer t n r
      → (length (readings_in b es) < k) × (t ≡ length es) × (n ≡ length (readings_in b es)) × (r ≡ last_clash es) × (t ≤ limit)
  fewer-says (found c h) t n r e = apart (cc)
  fewer-says (too_few h l) t n r e =
      let u : length es ≡ t = cc in let v : length (readings_in b es) ≡ n = cc in let w : last_clash es ≡ r = cc in
      (h, sym u, sym v, sym w, omega arith)
  fewer-says (too_long m h) t n r e = apart (cc)
  fewer-says (no_number h) t n r e = apart (cc)
  fewer-says (no_room h l) t n r e = apart (cc)

  -- ---- and what the walk says of the answer

  module _ (some : 1 ≤ k) (room : b.atoms ≤ length answer) where
    set_if : {A : Answered ℕ} → Outcome b es k limit answer A → {t : ℕ} {x : Atoms} → Kth b es k t x → t ≤ limit → A.told ≡ set t
    set_if (found c h) d l = ap set (kth-one b c d).0
    set_if (too_few h g) d l = absurd (omega (arith, kth-count b d))
    set_if (too_long n h) d l = absurd (omega (arith, needs-one b n (to-reading d)))
    set_if (no_number h) d l = absurd (omega arith)
    set_if (no_room h g) d l = absurd (omega arith)

    stopped-if : {A : Answered ℕ} → Outcome b es k limit answer A → {n : ℕ} → Needs b es k n → limit < n → A.told ≡ stopped limit
    stopped-if (found c h) m l = absurd (omega (arith, needs-one b m (to-reading c)))
    stopped-if (too_few h g) m l = absurd (omega (arith, needs-one b m (to_end h)))
    stopped-if (too_long n h) m l = refl
    stopped-if (no_number h) m l = absurd (omega arith)
    stopped-if (no_room h g) m l = absurd (omega arith)

    fewer-if : {A : Answered ℕ} → Outcome b es k limit answer A → length (readings_in b es) < k → length es ≤ limit
        → A.told ≡ fewer (length es) (length (readings_in b es)) (last_clash es)
    fewer-if (found c h) m l = absurd (omega (arith, kth-count b c))
    fewer-if (too_few h g) m l = refl
    fewer-if (too_long n h) m l = absurd (omega (arith, needs-one b n (to_end m)))
    fewer-if (no_number h) m l = absurd (omega arith)
    fewer-if (no_room h g) m l = absurd (omega arith)

-- ---- demand 2

module _ (b : Book) (es : List Event) (k limit : ℕ) (answer : List ℕ) where
  outcome : Outcome b es k limit answer (find_along b es k limit answer)
  outcome = find-outcome b es k limit answer

  module _ (some : 1 ≤ k) (room : b.atoms ≤ length answer) where
    -- the k-th answer set is given exactly if its try is within the limit, with the tries of the walk
    pub find-set : (t : ℕ) → ((find_along b es k limit answer).told ≡ set t) ↔ ((x : Atoms) × Kth b es k t x × (t ≤ limit))
    find-set t = (λ e. let (x, c, h, l) = set_says outcome t e in (x, c, h), λ (x, c, h). set_if some room outcome c h)

    -- number 9, exactly if the walk needs more tries
    pub find-stopped : ((find_along b es k limit answer).told ≡ stopped limit) ↔ ((n : ℕ) × Needs b es k n × (limit < n))
    find-stopped = (stopped-says outcome, λ (n, m, h). stopped-if some room outcome m h)

    -- number 11, exactly if the whole walk is within the limit and has fewer than k: all tries, all sets, the rule that clashed last
    pub find-fewer : (t n r : ℕ) → ((find_along b es k limit answer).told ≡ fewer t n r) ↔ ((length (readings_in b es) < k)
        × (t ≡ length es) × (n ≡ length (readings_in b es)) × (r ≡ last_clash es) × (t ≤ limit))
    find-fewer t n r = (
      fewer-says outcome t n r,
      λ (h, p, q, c, l). fewer-if some room outcome h (omega arith) ∙ (λ i. fewer (sym p i) (sym q i) (sym c i)),
    )

  -- the set that is given stands in the buffer, and the later bytes are kept
  pub find-row : (t : ℕ) (x : Atoms) → (find_along b es k limit answer).told ≡ set t → Kth b es k t x
      → (find_along b es k limit answer).buffer ≡ row_of b x ++ drop b.atoms answer
  find-row t x e c =
      let (y, d, h, l) = set_says outcome t e in l ∙ ap (λ (z : Atoms). row_of b z ++ drop b.atoms answer) (kth-one b d c).1

-- ---- of the bytes of a book

pub read_fits : (s : List ℕ) (n r index : ℕ) (l : List Rule) → Bytes s → read_of s ≡ good n r index l
    → (count (book_in s) ≤ 255) × Proper (book_in s)
unfolding book_in
read_fits s n r index l bytes e =
    let f = good-fits s n r index l bytes e in (f.rules, λ q h. (f.each _ (rule-member (book_of (read_of s)) q h)).head)

module _ (walk : Book → List Event) (s : List ℕ) (k limit : ℕ) (answer : List ℕ) where
  -- a book's refusal comes first, and nothing is written
  pub find-bad-book : (number at : ℕ) → read_of s ≡ bad number at
      → find_by walk s k limit answer ≡ record { told = refused_at number at; buffer = answer }
  unfolding find_by find_read
  find-bad-book number at e = rw e

  -- all that is said above of a book holds of the book that good bytes hold
  pub find-good-book : (n r index : ℕ) (l : List Rule) → read_of s ≡ good n r index l
      → find_by walk s k limit answer ≡ find_along (book_in s) (walk (book_in s)) k limit answer
  unfolding find_by find_read book_in book_of
  find-good-book n r index l e = rw e
