-- The rule that 11 tells (specs/Tries): that of the last contradictory try, which is the lowest rule in both sets of a pair that was closed to
-- its end. In a book without answer sets there is one: such a walk ends in a contradiction at every leaf.
use mathlib.Core.Path.{◌≡◌, refl, ◌∙◌, ap}
use mathlib.Core.Logic.{⊎_elim}
use mathlib.Core.List.Memᴰ
use mathlib.Core.List.{List, [], ◌∷◌, ◌++◌, Memᴰ}
use Prim.Native.Nat.{ℕ, ◌≤◌}
use native.Mathlib.Omega.{arith}
use lib.ListN.{length, length-append}
use Rattle.meaning.specs.declared.RuleNo.{RuleNo}
use Rattle.meaning.specs.Written.{Tables}
use Rattle.meaning.specs.Books.{Book, count, InBook}
use Rattle.meaning.specs.Colours.{on_side, off_side}
use Rattle.meaning.specs.Written.{nothing, chosen, pair}
use Rattle.meaning.specs.Computed.{close}
use Rattle.meaning.specs.Lowest.{one, clashed}
use Rattle.meaning.proofs.Lowest.{clashed-one}
use Rattle.meaning.proofs.Written.{sized-nothing}
use Rattle.meaning.proofs.Tests.{apart}
use Rattle.walk.specs.Events.{Event, clash, fork, reading, quiet, events}
use Rattle.walk.specs.Readings.{readings_in, readings}
use Rattle.walk.specs.Tries.{clash_in, last_clash}
use Rattle.walk.proofs.Readings.{readings-append}
use Rattle.walk.proofs.Events.{Walk, at_clash, at-reading, at_fork, walks}

pub clash-append : (n : ℕ) (es fs : List Event) → clash_in n (es ++ fs) ≡ clash_in (clash_in n es) fs
unfolding clash_in
clash-append n [] fs = refl
clash-append n (clash r ∷ es) fs = clash-append r.0 es fs
clash-append n (fork r ∷ es) fs = clash-append n es fs
clash-append n (reading d ∷ es) fs = clash-append n es fs
clash-append n (quiet ∷ es) fs = clash-append n es fs

-- no event of the list is a contradiction
abbrev pub NoClash : List Event → Type 0
NoClash es = (r : RuleNo) → Memᴰ (clash r) es → ⊥

clash-none : (n : ℕ) (es : List Event) → NoClash es → clash_in n es ≡ n
unfolding clash_in
clash-none n [] f = refl
clash-none n (clash r ∷ es) f = absurd (f r (Memᴰ.head refl))
clash-none n (fork r ∷ es) f = clash-none n es (λ q m. f q (Memᴰ.tail m))
clash-none n (reading d ∷ es) f = clash-none n es (λ q m. f q (Memᴰ.tail m))
clash-none n (quiet ∷ es) f = clash-none n es (λ q m. f q (Memᴰ.tail m))

-- the rule of the last contradictory try, or 255
pub last-clash : (earlier : List Event) (r : RuleNo) (later : List Event) → NoClash later → last_clash (earlier ++ (clash r ∷ later)) ≡ r.0
unfolding clash_in
last-clash earlier r later f = clash-append 255 earlier (clash r ∷ later) ∙ clash-none r.0 later f

pub no-last-clash : (es : List Event) → NoClash es → last_clash es ≡ 255
no-last-clash es f = clash-none 255 es f

module _ (b : Book) where
  -- each is told of a pair that was closed to its end
  pub clash-closed : {c : Tables} {es : List Event} → Walk b c es → (r : RuleNo) → Memᴰ (clash r) es
      → (d : Tables) × (clashed b (pair (close b d)) ≡ one r)
  clash-closed (at_clash {c = c} {r = q} k t) r m = ⊎_elim
      (λ e. let z : q ≡ r = cc in (c, rw k.closed at t ∙ ap one z)) (λ n. absurd (Memᴰ.not-nil n)) (Memᴰ.cases_cons m)
  clash-closed (at-reading k t p) r m = ⊎_elim (λ e. apart (cc)) (λ n. absurd (Memᴰ.not-nil n)) (Memᴰ.cases_cons m)
  clash-closed (at_fork f v w) r m = ⊎_elim (λ e. apart (cc))
      (λ n. ⊎_elim (λ k. clash-closed v r k) (λ k. clash-closed w r k) (Memᴰ.append_cases _ n)) (Memᴰ.cases_cons m)

  -- a walk without a reading: whatever was the last before, a rule of the book is the last behind it
  walk-clashes : {c : Tables} {es : List Event} → Walk b c es → length (readings_in b es) ≡ 0 → (n : ℕ)
      → (r : RuleNo) × InBook b r × (clash_in n es ≡ r.0)
  unfolding readings_in clash_in
  walk-clashes (at_clash {r = r} k t) e n = (r, (clashed-one b _ r t).0, refl)
  walk-clashes (at-reading k t p) e n = absurd (omega arith)
  walk-clashes (at_fork {d = d} {r = r} f v w) e n =
      let on = events b (chosen on_side r d) in let off = events b (chosen off_side r d) in
      let none : length (readings_in b off) ≡ 0 =
      omega (arith, ap length (readings-append b on off), length-append (readings_in b on) (readings_in b off)) in
      let (q, h, z) = walk-clashes w none (clash_in n on) in
      (q, h, clash-append n on off ∙ z)

  pub none-clashes : count b ≤ 255 → readings b ≡ [] → (r : RuleNo) × InBook b r × (last_clash (events b nothing) ≡ r.0)
  none-clashes fits e = walk-clashes (walks b fits nothing sized-nothing) (ap length e) 255
