-- A call's way along the events of any walk, by its first event (specs/Run): what a call returns that meets the limit, or whose first try
-- ends in a contradiction, at a reading, at a fork or quietly. The fixed walk and other walks go by these.
use mathlib.Core.Path.{◌≡◌, sym, ◌∙◌, ap}
use mathlib.Core.List.{List, [], ◌∷◌, ◌++◌}
use Prim.Native.Nat.{◌≤◌, ◌<◌}
use Rattle.meaning.specs.declared.RuleNo.{RuleNo}
use Rattle.meaning.specs.Books.{Book}
use Rattle.meaning.specs.Written.{Tables}
use Rattle.walk.specs.Events.{Event, clash, fork, reading, quiet}
use Rattle.walk.specs.Readings.{reading_of}
use Rattle.walk.specs.Run.{Wanted, State, counted, clashed_at, halting, reading_met, tried, run}
use Rattle.walk.specs.declared.tally.Halt.TheVariants.{Going, Limit}
use Rattle.walk.specs.declared.tally.Tally.{Tally}
use Rattle.walk.proofs.Run.{run-append, run-try, run-stops}

module _ (b : Book) (w : Wanted) (s : State) (going : s.tally.halt ≡ Going) where
  pub way-stops : (es : List Event) {e : Event} {more : List Event} → es ≡ e ∷ more → w.limit ≤ s.tally.tries → halting Limit s ≡ run b w s es
  way-stops es q h = sym (ap (run b w s) q ∙ run-stops b w s going _ _ h)

  module _ (h : s.tally.tries < w.limit) where
    pub way-clash : (es : List Event) {t : Tally} {r : RuleNo} → es ≡ clash r ∷ [] → t ≡ clashed_at s r
        → record { tally = t; out = s.out } ≡ run b w s es
    unfolding run tried
    way-clash es q e = rw e (sym (ap (run b w s) q ∙ run-try b w s going (clash _) [] h))

    pub way-reading : (es : List Event) {d : Tables} {u : State} → es ≡ reading d ∷ [] → u ≡ reading_met b w s (reading_of b d) → u ≡ run b w s es
    unfolding run tried
    way-reading es {d} q e = e ∙ sym (ap (run b w s) q ∙ run-try b w s going (reading d) [] h)

    -- the state after the try goes along the first side, and what that leaves along the second
    pub way-fork : (es xs ys : List Event) {r : RuleNo} {t : Tally} {u v : State} → es ≡ fork r ∷ (xs ++ ys)
        → t ≡ counted s s.tally.sets Going → u ≡ run b w (record { tally = t; out = s.out }) xs → v ≡ run b w u ys
        → v ≡ run b w s es
    unfolding tried
    way-fork es xs ys {r} q et eu ev =
        ev ∙ rw (eu, et) (sym (ap (run b w s) q ∙ run-try b w s going (fork r) _ h ∙ run-append b w _ _ _))

    pub way-quiet : (es xs : List Event) {t : Tally} {u : State} → es ≡ quiet ∷ xs → t ≡ counted s s.tally.sets Going
        → u ≡ run b w (record { tally = t; out = s.out }) xs → u ≡ run b w s es
    unfolding tried
    way-quiet es xs q et eu = eu ∙ rw et (sym (ap (run b w s) q ∙ run-try b w s going quiet _ h))
