-- The paper's walk is the fixed walk (law T): under a claim that no pair shows it needs as many branches as a call for answer set 1 needs
-- tries, and is stuck exactly where the first reading is met; so all branches are settled exactly if the book has no answer set. Both walks
-- go side by side (Alongside): the first unsettled branch and the first reading have the same number.
use mathlib.Core.Path.{◌≡◌, refl, sym, ◌∙◌, ap, subst}
use mathlib.Core.Logic.{◌↔◌, ⊎_elim}
use mathlib.Core.Bool.{true, false}
use mathlib.Core.List.{List, [], ◌∷◌, ◌++◌}
use Prim.Native.Nat.{ℕ, suc, ◌+◌, ◌≤◌, ◌<◌}
use native.Mathlib.Omega.{arith}
use lib.ListN.{length}
use Rattle.meaning.specs.Sets.{◌∉◌, every}
use Rattle.meaning.specs.Books.{Atoms, Book, count}
use Rattle.meaning.specs.Colours.{start}
use Rattle.meaning.specs.declared.kind.Claim.{Claim}
use Rattle.meaning.specs.Claim.{Contrary}
use Rattle.meaning.specs.Written.{Tables, nothing}
use Rattle.meaning.proofs.Tests.{and_left, and_right, true-and-false, decided}
use Rattle.meaning.proofs.OnWay.{Silent}
use Rattle.walk.specs.Events.{Event, reading, events}
use Rattle.walk.specs.Readings.{reading_of, readings_in, readings}
use Rattle.walk.specs.Tries.{Kth, to-reading}
use Rattle.walk.specs.Tries.{Needs, to_end}
use Rattle.walk.proofs.Needs.{kth-one, kth-count, needs-one}
use Rattle.walk.proofs.FirstWalk.{kth-answer, fewer-none}
use Rattle.writer.specs.Branches.{Tip, Branch, branches}
use Rattle.writer.specs.PaperNeeds.{settles, settled, Stuck, PaperNeeds, to-stuck, to_last}
use Rattle.writer.proofs.PaperNeeds.{stuck-some, paper-needs-some}
use Rattle.writer.proofs.Alongside.{Same, both-clash, both-part, both-whole, Alongside, no_more, one_each, walks-alongside}

alongside-length : {l : List Branch} {es : List Event} → Alongside l es → length l ≡ length es
alongside-length no_more = refl
alongside-length (one_each s p) = ap suc (alongside-length p)

module _ (b : Book) where
  -- ---- one branch and one event

  same-settled : {t : Tip} {e : Event} → Same t e → settles t ≡ true → (es : List Event) → readings_in b (e ∷ es) ≡ readings_in b es
  unfolding settles readings_in
  same-settled both-clash s es = refl
  same-settled both-part s es = refl
  same-settled both-whole s es = true-and-false s refl

  same-unsettled : {t : Tip} {e : Event} → Same t e → settles t ≡ false → (d : Tables) × (e ≡ reading d)
  unfolding settles
  same-unsettled both-clash n = true-and-false refl n
  same-unsettled both-part n = true-and-false refl n
  same-unsettled (both-whole {d}) n = (d, refl)

  -- ---- settled branches, and the first unsettled one

  -- settled branches go beside events without a reading
  settled-none : (l : List Branch) {es : List Event} → Alongside l es → every settled l ≡ true → readings_in b es ≡ []
  unfolding every readings_in
  settled-none [] no_more e = refl
  settled-none (t ∷ l) (one_each {es = es} s p) e =
      same-settled s (and_left (settled t) _ e) es ∙ settled-none l p (and_right (settled t) _ e)

  -- the events, parted at a first reading that has m events before it
  record Parted (es : List Event) (m : ℕ) : Type 0 where
    earlier : List Event
    found : Tables
    later : List Event
    whole : es ≡ earlier ++ (reading found ∷ later)
    long : length earlier ≡ m
    none : readings_in b earlier ≡ []

  unsettled-parted : (l : List Branch) (t : Branch) (m : List Branch) {es : List Event} → Alongside (l ++ (t ∷ m)) es
      → every settled l ≡ true → t ∉ settled → Parted es (length l)
  unfolding every readings_in
  unsettled-parted [] t m (one_each {es = es} s p) e n =
      let (d, q) = same-unsettled s n in record {
        earlier = [];
        found = d;
        later = es;
        whole = ap (λ (f : Event). f ∷ es) q;
        long = refl;
        none = refl;
      }
  unsettled-parted (u ∷ l) t m (one_each {e = f} s p) e n =
      let c = unsettled-parted l t m p (and_right (settled u) _ e) n in record {
        earlier = f ∷ c.earlier;
        found = c.found;
        later = c.later;
        whole = ap (λ (fs : List Event). f ∷ fs) c.whole;
        long = ap suc c.long;
        none = same-settled s (and_left (settled u) _ e) c.earlier ∙ c.none;
      }

module _ (b : Book) (k : Claim) (fits : count b ≤ 255) (silent : Silent b k) where
  -- as many branches as tries
  pub same_length : length (branches b k start) ≡ length (events b nothing)
  same_length = alongside-length (walks-alongside b k fits silent)

  -- ---- the one way

  stuck-first : {n : ℕ} → Stuck b k n → (x : Atoms) × Kth b (events b nothing) 1 n x
  stuck-first s =
      let p = rw s.walk at (walks-alongside b k fits silent) in
      let c = unsettled-parted b s.earlier s.last s.later p s.earlier-settled s.last-unsettled in (
        reading_of b c.found,
        record {
          earlier = c.earlier;
          found = c.found;
          later = c.later;
          walk = c.whole;
          try = s.number ∙ ap (λ (m : ℕ). m + 1) (sym c.long);
          number = ap (λ (l : List Atoms). length l + 1) (sym c.none);
          set = refl;
        },
      )

  settled-fewer : every settled (branches b k start) ≡ true → length (readings b) < 1
  settled-fewer s = omega (arith, ap length (settled-none b (branches b k start) (walks-alongside b k fits silent) s))

  needs-tries : {n : ℕ} → PaperNeeds b k n → Needs b (events b nothing) 1 n
  needs-tries (to-stuck s) = to-reading (stuck-first s).1
  needs-tries (to_last s) = subst (Needs b (events b nothing) 1) (sym same_length) (to_end (settled-fewer s))

  -- ---- and back, since each of these numbers is there and is one

  tries-needs : {n : ℕ} → Needs b (events b nothing) 1 n → PaperNeeds b k n
  tries-needs q = let (m, p) = paper-needs-some b k in subst (PaperNeeds b k) (needs-one b (needs-tries p) q) p

  first-stuck : {n : ℕ} {x : Atoms} → Kth b (events b nothing) 1 n x → Stuck b k n
  first-stuck c = ⊎_elim (λ s. absurd (omega (arith, settled-fewer s, kth-count b c)))
      (λ n. let (m, s) = stuck-some b k n in subst (Stuck b k) (kth-one b (stuck-first s).1 c).0 s)
      (decided (every settled (branches b k start)))

  -- ---- law T

  pub same-walk : (n : ℕ) → PaperNeeds b k n ↔ Needs b (events b nothing) 1 n
  same-walk n = (needs-tries, tries-needs)

  pub same-stuck : (n : ℕ) → Stuck b k n ↔ ((x : Atoms) × Kth b (events b nothing) 1 n x)
  same-stuck n = (stuck-first, λ (x, c). first-stuck c)

  -- all branches are settled exactly where there is no reading
  pub settled-contrary : (every settled (branches b k start) ≡ true) ↔ Contrary b
  settled-contrary = (
    λ s. fewer-none b fits (settled-fewer s),
    λ f. ⊎_elim (λ s. s)
        (λ n. let (m, s) = stuck-some b k n in let (x, c) = stuck-first s in absurd (f x (kth-answer b fits c)))
        (decided (every settled (branches b k start))),
  )
