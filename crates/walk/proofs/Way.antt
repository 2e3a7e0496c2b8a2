-- Where a call's way along the events ends (specs/Run; blueprint W6): behind all of them, at the reading that fills the room, or before the
-- try that would pass the limit.
use mathlib.Core.Path.{◌≡◌, refl, sym, ◌∙◌, ap, subst}
use mathlib.Core.Logic.{⊎_elim}
use mathlib.Core.List.{List, [], ◌∷◌, ◌++◌}
use Prim.Native.Nat.{ℕ, suc, ◌+◌, ◌*◌, ◌-◌, ◌≤◌, ◌<◌}
use native.Mathlib.Nat.{le_antisymm, eq-or-lt_of_le, suc-mul}
use native.Mathlib.Numerals.{add-one}
use native.Mathlib.Omega.{arith}
use lib.ListN.{length, length-append}
use Rattle.meaning.specs.Written.{Tables}
use Rattle.meaning.specs.Books.{Book}
use Rattle.meaning.specs.Choice.{if_lt, if_eq}
use Rattle.meaning.proofs.Tests.{lt-or-le, apart}
use Rattle.meaning.proofs.Choice.{lt_yes, lt_no, eq_yes, eq_no}
use Rattle.walk.specs.Events.{Event, clash, fork, reading, quiet}
use Rattle.walk.specs.Readings.{reading_of, readings_in}
use Rattle.walk.specs.Tries.{clash_in}
use Rattle.meaning.specs.Buffers.{write_at}
use Rattle.walk.specs.Run.{row_of, Wanted, State, counted, clashed_at, halting, reading_met, tried, run}
use Rattle.walk.specs.declared.tally.Halt.{Halt}
use Rattle.walk.specs.declared.tally.Halt.TheVariants.{Going, Full, Limit}
use Rattle.meaning.proofs.Buffers.{write-length, write-none, write-next}
use Rattle.walk.proofs.Rows.{row-length, rows_of}
use Rattle.walk.proofs.Run.{run-ended, run-try, run-stops}

module _ (b : Book) (w : Wanted) where
  -- the state after one more event, and after some, where neither the limit nor the end of the room stops the way
  unfoldable pub step : State → Event → State
  step s (clash r) = record { tally = clashed_at s r; out = s.out }
  step s (fork r) = record { tally = counted s s.tally.sets Going; out = s.out }
  step s quiet = record { tally = counted s s.tally.sets Going; out = s.out }
  step s (reading d) = record {
    tally = counted s (s.tally.sets + 1) Going;
    out = if_lt s.tally.sets w.pass s.out (write_at ((s.tally.sets - w.pass) * b.atoms) (row_of b (reading_of b d)) s.out);
  }

  unfoldable pub gone : State → List Event → State
  gone s [] = s
  gone s (e ∷ es) = gone (step s e) es

  -- room for one row more
  abbrev pub Open : State → Type 0
  Open s = s.tally.sets < w.pass + w.room

  -- from s along some events to a state: behind all of them; at the reading that fills the room; before the try that passes the limit
  pub data Way (s : State) : List Event → State → Type 0 where
    to_end : {es : List Event} → (gone s es).tally.tries ≤ w.limit → Open (gone s es) → Way s es (halting Going (gone s es))
    to-full : (more : List Event) (d : Tables) (later : List Event) → (gone s more).tally.tries < w.limit
        → (gone s more).tally.sets + 1 ≡ w.pass + w.room
        → Way s (more ++ (reading d ∷ later)) (halting Full (step (gone s more) (reading d)))
    to-limit : (more : List Event) (e : Event) (later : List Event) → w.limit ≡ (gone s more).tally.tries → Open (gone s more)
        → Way s (more ++ (e ∷ later)) (halting Limit (gone s more))

  further : (s : State) (e : Event) {es : List Event} {t : State} → Way (step s e) es t → Way s (e ∷ es) t
  unfolding gone
  further s e (to_end h k) = to_end h k
  further s e (to-full more d later h k) = to-full (e ∷ more) d later h k
  further s e (to-limit more f later h k) = to-limit (e ∷ more) f later h k

  pub gone-append : (s : State) (es fs : List Event) → gone s (es ++ fs) ≡ gone (gone s es) fs
  unfolding gone
  gone-append s [] fs = refl
  gone-append s (e ∷ es) fs = gone-append (step s e) es fs

  -- ---- what the events add to a state

  pub gone-tries : (s : State) (es : List Event) → (gone s es).tally.tries ≡ s.tally.tries + length es
  unfolding gone step
  gone-tries s [] = omega arith
  gone-tries s (clash r ∷ es) = omega (arith, gone-tries (step s (clash r)) es)
  gone-tries s (fork r ∷ es) = omega (arith, gone-tries (step s (fork r)) es)
  gone-tries s (quiet ∷ es) = omega (arith, gone-tries (step s quiet) es)
  gone-tries s (reading d ∷ es) = omega (arith, gone-tries (step s (reading d)) es)

  pub gone-sets : (s : State) (es : List Event) → (gone s es).tally.sets ≡ s.tally.sets + length (readings_in b es)
  unfolding gone step readings_in
  gone-sets s [] = omega arith
  gone-sets s (clash r ∷ es) = gone-sets (step s (clash r)) es
  gone-sets s (fork r ∷ es) = gone-sets (step s (fork r)) es
  gone-sets s (quiet ∷ es) = gone-sets (step s quiet) es
  gone-sets s (reading d ∷ es) = omega (arith, gone-sets (step s (reading d)) es)

  pub gone-clash : (s : State) (es : List Event) → (gone s es).tally.clash.0 ≡ clash_in s.tally.clash.0 es
  unfolding gone step clash_in
  gone-clash s [] = refl
  gone-clash s (clash r ∷ es) = gone-clash (step s (clash r)) es
  gone-clash s (fork r ∷ es) = gone-clash (step s (fork r)) es
  gone-clash s (quiet ∷ es) = gone-clash (step s quiet) es
  gone-clash s (reading d ∷ es) = gone-clash (step s (reading d)) es

  -- readings that are passed over leave the buffer
  pub gone-passes : (s : State) (es : List Event) → s.tally.sets + length (readings_in b es) ≤ w.pass → (gone s es).out ≡ s.out
  unfolding gone step readings_in
  gone-passes s [] h = refl
  gone-passes s (clash r ∷ es) h = gone-passes (step s (clash r)) es h
  gone-passes s (fork r ∷ es) h = gone-passes (step s (fork r)) es h
  gone-passes s (quiet ∷ es) h = gone-passes (step s quiet) es h
  gone-passes s (reading d ∷ es) h = gone-passes (step s (reading d)) es (omega arith) ∙ lt_yes _ _ _ _ (omega arith)

  -- the place of the next row
  abbrev pub place : State → ℕ
  place s = (s.tally.sets - w.pass) * b.atoms

  -- the others are written row by row
  pub gone-writes : (s : State) (es : List Event) → w.pass ≤ s.tally.sets
      → place s + length (rows_of b (readings_in b es)) ≤ length s.out
      → (gone s es).out ≡ write_at (place s) (rows_of b (readings_in b es)) s.out
  unfolding gone step readings_in rows_of
  gone-writes s [] p h = sym (write-none (place s) s.out)
  gone-writes s (clash r ∷ es) p h = gone-writes (step s (clash r)) es p h
  gone-writes s (fork r ∷ es) p h = gone-writes (step s (fork r)) es p h
  gone-writes s (quiet ∷ es) p h = gone-writes (step s quiet) es p h
  gone-writes s (reading d ∷ es) p h =
      let t = step s (reading d) in let row = row_of b (reading_of b d) in let rows = rows_of b (readings_in b es) in
      let o : t.out ≡ write_at (place s) row s.out = lt_no _ _ _ _ p in
      let z : s.tally.sets + 1 - w.pass ≡ suc (s.tally.sets - w.pass) = omega arith in
      let q : place t ≡ place s + length row = rw (z, suc-mul, row-length b (reading_of b d)) in
      let l : length t.out ≡ length s.out =
      ap length o ∙ write-length (place s) row s.out (omega (arith, length-append row rows)) in
      gone-writes t es (omega arith) (omega (arith, length-append row rows))
      ∙ rw (o, q) (write-next (place s) row rows s.out (omega (arith, length-append row rows)))

  -- ---- one try

  module _ (some-room : 1 ≤ w.room) where
    module _ (s : State) (d : Tables) where
      same-state : {h k : Halt} {l m : List ℕ} → h ≡ k → l ≡ m
          → ◌≡◌ {A = State} (record { tally = counted s (s.tally.sets + 1) h; out = l })
          (record { tally = counted s (s.tally.sets + 1) k; out = m })
      same-state p q = λ i. record { tally = counted s (s.tally.sets + 1) (p i); out = q i }

      try-reading : tried b w s (reading d) ≡ record {
        tally = counted s (s.tally.sets + 1) (if_eq (s.tally.sets + 1) (w.pass + w.room) Full Going);
        out = (step s (reading d)).out;
      }
      unfolding tried reading_met step
      try-reading = ⊎_elim
          (λ h. lt_yes _ _ _ _ h ∙ same-state (sym (eq_no _ _ _ _ (λ e. omega arith))) (sym (lt_yes _ _ _ _ h)))
          (λ h. lt_no _ _ _ _ h ∙ same-state refl (sym (lt_no _ _ _ _ h)))
          (lt-or-le s.tally.sets w.pass)

      try-full : s.tally.sets + 1 ≡ w.pass + w.room → tried b w s (reading d) ≡ halting Full (step s (reading d))
      unfolding step
      try-full e = try-reading ∙ same-state (eq_yes _ _ _ _ e) refl

      try-open : (s.tally.sets + 1 ≡ w.pass + w.room → ⊥) → tried b w s (reading d) ≡ step s (reading d)
      unfolding step
      try-open n = try-reading ∙ same-state (eq_no _ _ _ _ n) refl

    -- ---- the whole way

    module _ (s : State) (going : s.tally.halt ≡ Going) where
      stops : (e : Event) (es : List Event) → s.tally.tries ≤ w.limit → Open s → w.limit ≤ s.tally.tries
          → Way s (e ∷ es) (run b w s (e ∷ es))
      unfolding gone
      stops e es h o l = subst (Way s (e ∷ es)) (sym (run-stops b w s going e es l)) (to-limit [] e es (le_antisymm l h) o)

      fills : (d : Tables) (es : List Event) → s.tally.tries < w.limit → s.tally.sets + 1 ≡ w.pass + w.room
          → Way s (reading d ∷ es) (run b w s (reading d ∷ es))
      unfolding gone
      fills d es h e = subst (Way s (reading d ∷ es))
          (sym (run-try b w s going (reading d) es h ∙ ap (λ (u : State). run b w u es) (try-full s d e)
          ∙ run-ended b w _ es (λ q. apart (cc))))
          (to-full [] d es h e)

      goes_on : (e : Event) (es : List Event) → s.tally.tries < w.limit → tried b w s e ≡ step s e
          → Way (step s e) es (run b w (step s e) es) → Way s (e ∷ es) (run b w s (e ∷ es))
      goes_on e es h q k = subst (Way s (e ∷ es)) (sym (run-try b w s going e es h ∙ ap (λ (u : State). run b w u es) q)) (further s e k)

    pub way : (s : State) (es : List Event) → s.tally.halt ≡ Going → s.tally.tries ≤ w.limit → Open s → Way s es (run b w s es)
    unfolding run gone step tried readings_in
    way s [] g h o =
        let e : halting Going s ≡ s = (λ i. halting (sym g i) s) in
        subst (Way s []) e (to_end h o)
    way s (clash r ∷ es) g h o = ⊎_elim
        (λ l. goes_on s g (clash r) es l refl (way (step s (clash r)) es refl (omega arith) o)) (stops s g (clash r) es h o)
        (lt-or-le s.tally.tries w.limit)
    way s (fork r ∷ es) g h o = ⊎_elim
        (λ l. goes_on s g (fork r) es l refl (way (step s (fork r)) es refl (omega arith) o)) (stops s g (fork r) es h o)
        (lt-or-le s.tally.tries w.limit)
    way s (quiet ∷ es) g h o = ⊎_elim
        (λ l. goes_on s g quiet es l refl (way (step s quiet) es refl (omega arith) o)) (stops s g quiet es h o)
        (lt-or-le s.tally.tries w.limit)
    way s (reading d ∷ es) g h o = ⊎_elim
        (λ l. ⊎_elim
        (λ e. fills s g d es l (add-one _ ∙ e))
        (λ k. goes_on s g (reading d) es l (try-open s d (λ e. omega arith))
        (way (step s (reading d)) es refl (omega arith) (omega arith)))
        (eq-or-lt_of_le o))
        (stops s g (reading d) es h o) (lt-or-le s.tally.tries w.limit)
