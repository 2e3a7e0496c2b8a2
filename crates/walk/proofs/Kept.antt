-- Finding that tells no reading leaves the buffer as it was, whatever the book. Document 01, "Numbers given back": "Nothing lent is written
-- on a refusal." The way passes readings over without a byte, and the one that it writes is the last.
use mathlib.Core.Path.{◌≡◌, refl}
use mathlib.Core.Logic.{◌⊎◌, inl, inr}
use mathlib.Core.List.{List}
use Prim.Native.Nat.{ℕ, ◌-◌, ◌≤◌}
use native.Mathlib.Omega.{arith}
use Rattle.meaning.specs.Books.{Book}
use Rattle.meaning.specs.Told.{Answered}
use Rattle.meaning.proofs.Choice.{lt-either, eq_yes, eq-either}
use Rattle.meaning.proofs.Tests.{apart}
use Rattle.walk.specs.Events.{Event, clash, fork, reading, quiet}
use Rattle.walk.specs.Run.{Wanted, State, reading_met, tried, met, run}
use Rattle.walk.specs.Find.{set, start_of, told_by, find_along}
use Rattle.walk.specs.declared.tally.Halt.TheVariants.{Going, Full}
use Rattle.walk.proofs.Run.{run-keeps}

module _ (b : Book) (es : List Event) (k limit : ℕ) (answer : List ℕ) where
  -- the buffer is as it was as long as readings are passed over; the one that is written ends the way
  Kept : State → Type 0
  Kept s = (s.tally.halt ≡ Full) ⊎ ((s.tally.sets ≤ k - 1) × (s.out ≡ answer))

  abbrev one : Wanted
  one = record { pass = k - 1; room = 1; limit = limit }

  try-kept : (s : State) (e : Event) → s.tally.sets ≤ k - 1 → s.out ≡ answer → Kept (tried b one s e)
  unfolding Kept tried reading_met
  try-kept s (clash r) h o = inr (h, o)
  try-kept s (fork r) h o = inr (h, o)
  try-kept s quiet h o = inr (h, o)
  try-kept s (reading d) h o = lt-either Kept _ _ _ _ (λ l. inr (omega arith, o)) (λ l. inl (eq_yes _ _ _ _ (omega arith)))

  event-kept : (s : State) (e : Event) → s.tally.halt ≡ Going → Kept s → Kept (met b one Going s e)
  unfolding Kept met
  event-kept s e g (inl f) = apart (cc)
  event-kept s e g (inr (h, o)) = lt-either Kept _ _ _ _ (λ l. try-kept s e h o) (λ l. inr (h, o))

  walk_kept : Kept (run b one (start_of answer) es)
  unfolding Kept
  walk_kept = run-keeps b one Kept event-kept _ _ (inr (omega arith, refl))

  kept_out : (s : State) → Kept s → ((t : ℕ) → told_by s.tally.halt s limit ≡ set t → ⊥) → s.out ≡ answer
  unfolding Kept told_by
  kept_out s (inl e) f = absurd (f s.tally.tries (rw e))
  kept_out s (inr (h, o)) f = o

  -- nothing is written on any answer but a reading
  pub find-keeps : ((t : ℕ) → (find_along b es k limit answer).told ≡ set t → ⊥) → (find_along b es k limit answer).buffer ≡ answer
  unfolding find_along
  find-keeps =
      let P : Answered ℕ → Type 0 = λ a. ((t : ℕ) → a.told ≡ set t → ⊥) → a.buffer ≡ answer in
      eq-either P _ _ _ _ (λ e f. refl) λ n. lt-either P _ _ _ _ (λ h f. refl) λ h. kept_out _ walk_kept
