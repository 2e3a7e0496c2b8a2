-- What finding answers along the events of a walk (demand 2; blueprint W6): the k-th reading exactly if its try is within the limit, 9
-- exactly if the walk needs more tries, otherwise 11 exactly if there are fewer than k readings, with the counts of the whole walk.
use mathlib.Core.Path.{◌≡◌, refl, sym, ◌∙◌, ap, subst}
use mathlib.Core.Logic.{⊎_elim}
use mathlib.Core.List.{List, ◌∷◌, ◌++◌}
use Prim.Native.Nat.{ℕ, ◌+◌, ◌-◌, ◌≤◌, ◌<◌}
use native.Mathlib.Nat.{zero-add, zero-mul}
use native.Mathlib.Omega.{arith}
use lib.ListN.{length, drop, length-append}
use Rattle.meaning.specs.Written.{Tables}
use Rattle.meaning.specs.Books.{Atoms, Book}
use Rattle.meaning.specs.Told.{fewer, stopped, refused, Answered}
use Rattle.meaning.proofs.Tests.{lt-or-le}
use Rattle.meaning.proofs.Choice.{lt_no, lt-either, eq-either}
use Rattle.walk.specs.Events.{Event, reading}
use Rattle.walk.specs.Readings.{reading_of, readings_in}
use Rattle.walk.specs.Tries.{Kth, Needs, to-reading, to_end, clash_in, last_clash}
use Rattle.walk.specs.Run.{row_of, Wanted, State}
use Rattle.walk.specs.Find.{set, start_of, told_by, answered_by, find_along}
use Rattle.meaning.proofs.Buffers.{write-front}
use Rattle.walk.proofs.Rows.{row-length}
use Rattle.walk.proofs.Way.{step, gone, gone-tries, gone-sets, gone-clash, gone-passes, Way, to-full, to-limit, way}
use Rattle.walk.proofs.Way.{to_end as all-met}
use Rattle.walk.proofs.Needs.{amount, parted-more, kth-or-fewer}

module _ (b : Book) (es : List Event) (k limit : ℕ) (answer : List ℕ) where
  -- how a call may end, with what it answers
  pub data Outcome : Answered ℕ → Type 0 where
    found : {t : ℕ} {x : Atoms} → Kth b es k t x → t ≤ limit
        → Outcome (record { told = set t; buffer = row_of b x ++ drop b.atoms answer })
    too_few : length (readings_in b es) < k → length es ≤ limit
        → Outcome (record { told = fewer (length es) (length (readings_in b es)) (last_clash es); buffer = answer })
    too_long : {n : ℕ} → Needs b es k n → limit < n → Outcome (record { told = stopped limit; buffer = answer })
    no_number : k ≡ 0 → Outcome (record { told = refused 15; buffer = answer })
    no_room : 1 ≤ k → length answer < b.atoms → Outcome (record { told = refused 8; buffer = answer })

  abbrev wanted : Wanted
  wanted = record { pass = k - 1; room = 1; limit = limit }

  module _ (some : 1 ≤ k) where
    -- the limit was met before another try
    limit-met : (more : List Event) (e : Event) (later : List Event) → es ≡ more ++ (e ∷ later) → limit ≡ length more
        → amount b more < k → Outcome (record { told = stopped limit; buffer = answer })
    limit-met more e later q h l = ⊎_elim
        (λ (t, x, c). too_long (to-reading c) (⊎_elim
        (λ g. absurd (omega (arith, c.number, parted-more b c.earlier c.found c.later more (e ∷ later) (sym c.walk ∙ q) g)))
        (λ g. omega (arith, c.try)) (lt-or-le (length c.earlier) (length more))))
        (λ f. too_long (to_end f) (omega (arith, ap length q, length-append more (e ∷ later))))
        (kth-or-fewer b es k some)

    -- the k-th reading was met: its row stands in front
    row_written : (s : State) (d : Tables) → s.tally.sets + 1 ≡ k → s.out ≡ answer
        → (step b wanted s (reading d)).out ≡ row_of b (reading_of b d) ++ drop b.atoms answer
    unfolding step
    row_written s d e o =
        let z : s.tally.sets - (k - 1) ≡ 0 = omega arith in
        lt_no _ _ _ _ (omega arith) ∙ rw (z, zero-mul, o, write-front, row-length)

    outcome-of : (fs : List Event) (t : State) → es ≡ fs → Way b wanted (start_of answer) fs t → Outcome (answered_by t limit)
    unfolding told_by step
    outcome-of fs t q (all-met h o) =
        let s = start_of answer in let u = gone-tries b wanted s fs in let v = gone-sets b wanted s fs in
        let a : (gone b wanted s fs).tally.tries ≡ length es = u ∙ zero-add _ ∙ ap length (sym q) in
        let c : (gone b wanted s fs).tally.sets ≡ amount b es = v ∙ zero-add _ ∙ ap (amount b) (sym q) in
        let q : (gone b wanted s fs).tally.clash.0 ≡ last_clash es = gone-clash b wanted s fs ∙ ap (clash_in 255) (sym q) in
        let f = gone-passes b wanted s fs (omega arith) in
        subst Outcome (λ i. record { told = fewer (sym a i) (sym c i) (sym q i); buffer = sym f i }) (too_few (omega arith) (omega arith))
    outcome-of fs t q (to-full more d later h e) =
        let s = start_of answer in let u = gone-tries b wanted s more in let v = gone-sets b wanted s more in
        let n = (gone b wanted s more).tally.tries + 1 in
        let c : Kth b es k n (reading_of b d) =
        record { earlier = more; found = d; later = later; walk = q; try = omega arith; number = omega arith; set = refl } in
        let f = row_written (gone b wanted s more) d (omega arith) (gone-passes b wanted s more (omega arith)) in
        subst (λ (o : List ℕ). Outcome (record { told = set n; buffer = o })) (sym f) (found c (omega arith))
    outcome-of fs t q (to-limit more e later h o) =
        let s = start_of answer in let u = gone-tries b wanted s more in let v = gone-sets b wanted s more in
        subst (λ (l : List ℕ). Outcome (record { told = stopped limit; buffer = l })) (sym (gone-passes b wanted s more (omega arith)))
        (limit-met more e later q (omega arith) (omega arith))

  pub find-outcome : Outcome (find_along b es k limit answer)
  unfolding find_along
  find-outcome = eq-either Outcome _ _ _ _ no_number (λ n.
      let some : 1 ≤ k = omega arith in
      lt-either Outcome _ _ _ _ (no_room some) (λ h.
      outcome-of some _ _ refl (way b wanted (omega arith) (start_of answer) _ refl (omega arith) (omega arith))))
