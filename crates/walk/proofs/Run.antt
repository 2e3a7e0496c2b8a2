-- Laws of a call's way along the events (specs/Run; blueprint W5): it goes through two lists one after the other, stays where it has
-- ended, and keeps what the next call of the walk may assume. Each goes by what one event does to the state.
use mathlib.Core.Path.{◌≡◌, refl, ◌∙◌, ap}
use mathlib.Core.List.{List, [], ◌∷◌, ◌++◌}
use Prim.Native.Nat.{ℕ, ◌+◌, ◌*◌, ◌-◌, ◌≤◌, ◌<◌}
use native.Mathlib.Nat.{mul-le-mul_right, add-mul, one-mul}
use native.Mathlib.Omega.{arith}
use lib.ListN.{length}
use Rattle.meaning.proofs.Tests.{apart}
use Rattle.meaning.specs.declared.RuleNo.{RuleNo}
use Rattle.meaning.specs.Books.{Atoms, Book}
use Rattle.meaning.specs.Choice.{if_eq}
use Rattle.meaning.proofs.Choice.{lt_yes, lt_no, lt-either, eq-either}
use Rattle.walk.specs.Events.{Event, clash, fork, reading, quiet}
use Rattle.walk.specs.Readings.{reading_of}
use Rattle.meaning.specs.Buffers.{write_at}
use Rattle.walk.specs.Run.{row_of, Wanted, State, counted, clashed_at, halting, reading_met, tried, met, run}
use Rattle.walk.specs.declared.tally.Halt.{Halt}
use Rattle.walk.specs.declared.tally.Halt.TheVariants.{Going, Full, Limit}
use Rattle.meaning.proofs.Buffers.{write-length}
use Rattle.walk.proofs.Rows.{row-length}

-- ---- one event

module _ (b : Book) (w : Wanted) where
  -- a try more: so many readings, why the way ended if it did, and the buffer
  abbrev moved : State → ℕ → Halt → List ℕ → State
  moved s n h out = record { tally = counted s n h; out = out }

  -- what an event may do to a state whose way has not ended; where it meets no reading, a rule may be told of it
  pub data Moved (s : State) : State → Type 0 where
    stopped : w.limit ≤ s.tally.tries → Moved s (halting Limit s)
    no-reading : (r : RuleNo) → s.tally.tries < w.limit → Moved s (record { tally = clashed_at s r; out = s.out })
    passed_over : s.tally.tries < w.limit → s.tally.sets < w.pass → Moved s (moved s (s.tally.sets + 1) Going s.out)
    written : (x : Atoms) (h : Halt) → s.tally.tries < w.limit → w.pass ≤ s.tally.sets
        → (h ≡ Going → s.tally.sets + 1 ≡ w.pass + w.room → ⊥)
        → Moved s (moved s (s.tally.sets + 1) h (write_at ((s.tally.sets - w.pass) * b.atoms) (row_of b x) s.out))

  try-moves : (s : State) (e : Event) → s.tally.tries < w.limit → Moved s (tried b w s e)
  unfolding tried reading_met
  try-moves s (clash r) h = no-reading r h
  try-moves s (fork r) h = no-reading s.tally.clash h
  try-moves s quiet h = no-reading s.tally.clash h
  try-moves s (reading d) h = lt-either (Moved s) _ _ _ _ (passed_over h) (λ p. written (reading_of b d) _ h p full)
    where
      full : if_eq (s.tally.sets + 1) (w.pass + w.room) Full Going ≡ Going → s.tally.sets + 1 ≡ w.pass + w.room → ⊥
      full = eq-either (λ h. h ≡ Going → s.tally.sets + 1 ≡ w.pass + w.room → ⊥) _ _ Full Going
          (λ q e. apart (cc)) (λ n e q. n q)

  pub event-moves : (s : State) (e : Event) → Moved s (met b w Going s e)
  unfolding met
  event-moves s e = lt-either (Moved s) _ _ _ _ (try-moves s e) stopped

  -- ---- what each event keeps, the way keeps

  module _ (P : State → Type 0) (keeps : (s : State) (e : Event) → s.tally.halt ≡ Going → P s → P (met b w Going s e)) where
    met-keeps : (h : Halt) (s : State) (e : Event) → s.tally.halt ≡ h → P s → P (met b w h s e)
    unfolding met
    met-keeps Going s e g p = keeps s e g p
    met-keeps Full s e g p = p
    met-keeps Limit s e g p = p

    pub run-keeps : (s : State) (es : List Event) → P s → P (run b w s es)
    unfolding run
    run-keeps s [] p = p
    run-keeps s (e ∷ es) p = run-keeps (met b w s.tally.halt s e) es (met-keeps _ s e refl p)

  -- ---- two lists; an ended way; one try more

  pub run-append : (s : State) (es fs : List Event) → run b w s (es ++ fs) ≡ run b w (run b w s es) fs
  unfolding run
  run-append s [] fs = refl
  run-append s (e ∷ es) fs = run-append (met b w s.tally.halt s e) es fs

  pub run-ended : (s : State) (es : List Event) → (s.tally.halt ≡ Going → ⊥) → run b w s es ≡ s
  run-ended s es n = run-keeps (λ t. t ≡ s) (λ t e g p. absurd (n (rw p at g))) s es refl

  module _ (s : State) (going : s.tally.halt ≡ Going) (e : Event) (es : List Event) where
    -- the state after the first event
    next : {t : State} → met b w Going s e ≡ t → run b w s (e ∷ es) ≡ run b w t es
    unfolding run
    next f = ap (λ (t : State). run b w t es) (ap (λ (h : Halt). met b w h s e) going ∙ f)

    pub run-try : s.tally.tries < w.limit → run b w s (e ∷ es) ≡ run b w (tried b w s e) es
    unfolding met
    run-try h = next (lt_yes _ _ _ _ h)

    pub run-stops : w.limit ≤ s.tally.tries → run b w s (e ∷ es) ≡ halting Limit s
    unfolding met
    run-stops h = next (lt_no _ _ _ _ h) ∙ run-ended _ es (λ z. apart (cc))

  -- ---- what a call of the walk asks of a state, and what its way keeps for the next call

  -- no more readings than tries; room for the next row as long as the way goes on; n bytes in the buffer
  pub record Fine (n : ℕ) (s : State) : Type 0 where
    pub counts : s.tally.sets ≤ s.tally.tries
    pub most : s.tally.sets ≤ w.pass + w.room
    pub going : s.tally.halt ≡ Going → s.tally.sets < w.pass + w.room
    pub long : length s.out ≡ n

  module _ (n : ℕ) (some-room : 1 ≤ w.room) (rows_fit : w.room * b.atoms ≤ n) where
    -- the next row lies within the buffer
    pub row_fits : (s : State) → Fine n s → s.tally.halt ≡ Going → w.pass ≤ s.tally.sets
        → (s.tally.sets - w.pass) * b.atoms + b.atoms ≤ length s.out
    row_fits s f g h =
        let k : s.tally.sets - w.pass + 1 ≤ w.room = omega (arith, f.going g) in
        omega (arith, f.long, mul-le-mul_right b.atoms k, add-mul (s.tally.sets - w.pass) 1 b.atoms, one-mul b.atoms)

    event-fine : (s t : State) → Fine n s → s.tally.halt ≡ Going → Moved s t → Fine n t
    event-fine s t f g (stopped k) = record { counts = f.counts; most = f.most; going = λ e. f.going g; long = f.long }
    event-fine s t f g (no-reading r k) =
        record { counts = omega (arith, f.counts); most = f.most; going = λ e. f.going g; long = f.long }
    event-fine s t f g (passed_over k l) = record {
      counts = omega (arith, f.counts);
      most = omega arith;
      going = λ e. omega arith;
      long = f.long;
    }
    event-fine s t f g (written x h k l q) = record {
      counts = omega (arith, f.counts);
      most = omega (arith, f.going g);
      going = λ e. omega (arith, f.going g, q e);
      long = write-length _ _ s.out (rw (row-length b x) (row_fits s f g l)) ∙ f.long;
    }

    pub run-fine : (s : State) (es : List Event) → Fine n s → Fine n (run b w s es)
    run-fine s es f = run-keeps (Fine n) (λ t e g h. event-fine t _ h g (event-moves t e)) s es f
