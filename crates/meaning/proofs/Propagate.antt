-- Propagation computed: the computed one is the smallest propagated pair above, written out, with the marks and
-- the places from R on left as they were; and what is a propagation of c, in whatever order it was made, is the computed one.
use mathlib.Core.Path.{◌≡◌, refl, ap₂}
use mathlib.Core.Bool.{Bool}
use mathlib.Core.List.{List}
use mathlib.Core.Logic.{⊎_elim}
use Prim.Native.Nat.{ℕ, zero, suc, ◌+◌, ◌≤◌}
use Rattle.meaning.specs.Written.{Tables}
use Rattle.meaning.specs.Sets.{◌⊆◌}
use Rattle.meaning.specs.Books.{Book, count}
use Rattle.meaning.specs.Colours.{Pair, may_on, blocked, Within, ClosedAbove}
use Rattle.meaning.specs.Written.{added, coloured, lent, pair}
use Rattle.meaning.specs.Computed.{iterate}
use Rattle.meaning.specs.Propagation.{Propagated, PropagatedAbove, Propagation, may_off, propagate_more, propagate}
use Rattle.meaning.proofs.Tests.{either, or_left, or_right}
use Rattle.meaning.proofs.Least.{smallest-same}
use Rattle.meaning.proofs.Rules.{may_on-mono, blocked-mono, starved-mono}
use Rattle.meaning.proofs.Written.{Sized, Untouched}
use Rattle.meaning.proofs.Rounds.{RestsAbove, Growing, rounds-smallest, rounds-sized, rounds-untouched, rounds-rest}
use Rattle.meaning.proofs.Rounds.{rounds-computed}
use Rattle.meaning.proofs.Propagation.{propagation-mono, propagated-propagation, propagation-within-closed}

module _ (b : Book) where
  pub may_off-mono : {c d : Pair} → Within b c d → may_off b c ⊆ may_off b d
  unfolding may_off
  may_off-mono {c} {d} w r m =
      ⊎_elim (λ p. or_left _ (blocked-mono b w r p)) (λ p. or_right (blocked b d r) (starved-mono b w r p)) (either (blocked b c r) _ m)

  growing : Growing b (may_on b) (may_off b)
  growing = record { on = λ w r h. may_on-mono b w r; off = λ w r h. may_off-mono w r }

  rests-propagated : (c d : Pair) → RestsAbove b (may_on b) (may_off b) c d → PropagatedAbove b c d
  unfolding may_off
  rests-propagated c d k = record {
    above = k.above;
    propagated = record {
      goes_on = k.on;
      goes-off-blocked = λ r h m. k.off r h (or_left _ m);
      goes-off-starved = λ r h m. k.off r h (or_right (blocked b d r) m);
    };
  }

  propagated-rests : (c d : Pair) → PropagatedAbove b c d → RestsAbove b (may_on b) (may_off b) c d
  unfolding may_off
  propagated-rests c d k = let p = k.propagated in record {
    above = k.above;
    on = p.goes_on;
    off = λ r h m. ⊎_elim (p.goes-off-blocked r h) (p.goes-off-starved r h) (either (blocked b d r) _ m);
  }

  module _ (fits : count b ≤ 255) where
    module _ (c : Tables) (sized : Sized c) where
      pub propagate-is : Propagation b (pair c) (pair (propagate b c))
      unfolding propagate propagate_more
      propagate-is = smallest-same (rests-propagated (pair c)) (propagated-rests (pair c))
          (rounds-smallest b (may_on b) (may_off b) growing fits c sized)

      pub propagate-sized : Sized (propagate b c)
      unfolding propagate propagate_more
      propagate-sized = rounds-sized b (may_on b) (may_off b) growing fits c sized

      pub propagate-untouched : Untouched b c (propagate b c)
      unfolding propagate propagate_more
      propagate-untouched = rounds-untouched b (may_on b) (may_off b) growing fits c sized

      -- the marks and the levels stay
      pub propagate-rest : ((propagate b c).marks ≡ c.marks) × ((propagate b c).level ≡ c.level) × ((propagate b c).levels ≡ c.levels)
      unfolding propagate propagate_more
      propagate-rest = rounds-rest b (may_on b) (may_off b) growing fits c sized

      -- it is within every closed pair above
      pub propagate-within-closed : (e : Pair) → ClosedAbove b (pair c) e → Within b (pair (propagate b c)) e
      propagate-within-closed = propagation-within-closed b propagate-is

      -- a colouring that is a propagation of c, in whatever order it was made, is the computed one
      pub propagation-computed : (d : Tables) → Sized d → Propagation b (pair c) (pair d) → d.marks ≡ c.marks → d.level ≡ c.level
          → d.levels ≡ c.levels → Untouched b c d → d ≡ propagate b c
      unfolding propagate propagate_more
      propagation-computed d t p m v l u = rounds-computed b (may_on b) (may_off b) growing fits c sized d t
          (smallest-same (propagated-rests (pair c)) (rests-propagated (pair c)) p) m v l u

    pub propagate-mono : (c d : Tables) → Sized c → Sized d → Within b (pair c) (pair d)
        → Within b (pair (propagate b c)) (pair (propagate b d))
    propagate-mono c d s t w = propagation-mono b w (propagate-is c s) (propagate-is d t)

    -- to a propagated pair nothing is added
    pub propagated-propagate : (c : Tables) → Sized c → Propagated b (pair c) → c ≡ propagate b c
    propagated-propagate c s k = propagation-computed c s c s (propagated-propagation b k) refl refl refl
        (record { on = λ r h. refl; off = λ r h. refl })

    pub propagate-idempotent : (c : Tables) → Sized c → propagate b c ≡ propagate b (propagate b c)
    propagate-idempotent c s = propagated-propagate (propagate b c) (propagate-sized c s) (propagate-is c s).good.propagated

  -- on and off come from on and off alone
  pub propagate-coloured : (c : Tables)
      → ((propagate b c).on ≡ (propagate b (coloured c.on c.off)).on) × ((propagate b c).off ≡ (propagate b (coloured c.on c.off)).off)
  unfolding propagate propagate_more iterate
  propagate-coloured c = sides (count b + count b)
    where
      sides : (n : ℕ) → ((iterate (propagate_more b) n c).on ≡ (iterate (propagate_more b) n (coloured c.on c.off)).on)
          × ((iterate (propagate_more b) n c).off ≡ (iterate (propagate_more b) n (coloured c.on c.off)).off)
      sides zero = (refl, refl)
      sides (suc n) = let (p, q) = sides n in (
        ap₂ (λ (on off : List Bool). added b (may_on b (lent on off)) on) p q,
        ap₂ (λ (on off : List Bool). added b (may_off b (lent on off)) off) p q,
      )
