-- The one theory of smallest sets: support, closing and the least model all go through it. A smallest set is unique and grows with its
-- condition, and it is found by adding what every good set must hold until nothing is added (blueprint, M2, C0 and C2). The idea of the
-- last: what is written grows or is at rest, and it cannot grow for ever.
use mathlib.Core.Path.{◌≡◌, ap}
use mathlib.Core.Logic.{◌⊎◌, inl, inr, ⊎_elim, ⊎_map}
use Prim.Native.Nat.{ℕ, zero, suc, ◌≤◌, ◌<◌}
use native.Mathlib.Omega.{arith}
use Rattle.meaning.specs.Sets.{Smallest}
use Rattle.meaning.specs.Computed.{iterate}

module _ {S : Type 0} {Within : S → S → Type 0} {Good : S → Type 0} where
  -- a stronger condition has a larger smallest set
  pub smallest-mono : {Strong : S → Type 0} → ((u : S) → Strong u → Good u) → {s t : S} → Smallest Within Good s
      → Smallest Within Strong t → Within s t
  smallest-mono f {t = t} p q = p.least t (f t q.good)

  pub smallest-unique : {s t : S} → Smallest Within Good s → Smallest Within Good t → Within s t × Within t s
  smallest-unique p q = (smallest-mono (λ u g. g) p q, smallest-mono (λ u g. g) q p)

  -- a condition that is met by the same sets has the same smallest
  pub smallest-same : {Alike : S → Type 0} → ((u : S) → Good u → Alike u) → ((u : S) → Alike u → Good u) → {s : S}
      → Smallest Within Good s → Smallest Within Alike s
  smallest-same f g {s = s} p = record { good = f s p.good; least = λ t h. p.least t (g t h) }

  -- what is within every good one, and is good itself, is the smallest
  pub reached-smallest : {s : S} → ((t : S) → Good t → Within s t) → Good s → Smallest Within Good s
  reached-smallest f g = record { good = g; least = f }

  -- the smallest of one kind, carried to another kind: where a good one of the other kind is carried back to a good one
  pub smallest-through : {T : Type 0} {Under : T → T → Type 0} {Fair : T → Type 0} (to : S → T) (back : T → S) {s : S}
      → Smallest Within Good s → Fair (to s) → ((t : T) → Fair t → Good (back t)) → ((t : T) → Within s (back t) → Under (to s) t)
      → Smallest Under Fair (to s)
  smallest-through to back p fair good under = record { good = fair; least = λ t f. under t (p.least (back t) (good t f)) }

-- What is written w stands for read w; more adds to it; most is as large as a fine one can be.
pub record Adding {S W : Type 0} (Within : S → S → Type 0) (Good : S → Type 0) (read : W → S) (more : W → W) (Fine : W → Type 0)
    (most : ℕ) : Type 0 where
  pub size : W → ℕ
  pub bounded : (w : W) → Fine w → size w ≤ most
  pub kept : (w : W) → Fine w → Fine (more w)
  pub grows : (w : W) → Fine w → (w ≡ more w) ⊎ (size w < size (more w))
  pub forced : (w : W) → Fine w → (t : S) → Good t → Within (read w) t → Within (read (more w)) t
  pub rests : (w : W) → Fine w → w ≡ more w → Good (read w)

-- what each round keeps, all rounds keep
pub iterate-keeps : {W : Type 0} (more : W → W) (Fine : W → Type 0) → ((w : W) → Fine w → Fine (more w))
    → (n : ℕ) (w : W) → Fine w → Fine (iterate more n w)
unfolding iterate
iterate-keeps more Fine kept zero w f = f
iterate-keeps more Fine kept (suc n) w f = kept _ (iterate-keeps more Fine kept n w f)

module _ {S W : Type 0} {Within : S → S → Type 0} {Good : S → Type 0} {read : W → S} {more : W → W} {Fine : W → Type 0} {most : ℕ}
    (adding : Adding Within Good read more Fine most) where
  pub iterate-fine : (n : ℕ) (w : W) → Fine w → Fine (iterate more n w)
  iterate-fine = iterate-keeps more Fine adding.kept

  -- every round adds something, or nothing is added any more
  rests-or-large : (n : ℕ) (w : W) → Fine w
      → (iterate more n w ≡ more (iterate more n w)) ⊎ (n ≤ adding.size (iterate more n w))
  unfolding iterate
  rests-or-large zero w f = inr (omega arith)
  rests-or-large (suc n) w f = ⊎_elim (λ p. inl (ap more p)) larger (rests-or-large n w f)
    where
      x : W
      x = iterate more n w

      larger : n ≤ adding.size x → (more x ≡ more (more x)) ⊎ (suc n ≤ adding.size (more x))
      larger h = ⊎_map (ap more) (λ p. omega arith) (adding.grows x (iterate-fine n w f))

  iterate-rests : (w : W) → Fine w → iterate more most w ≡ more (iterate more most w)
  iterate-rests w f =
      ⊎_elim (λ p. p) (λ h. ⊎_elim (λ p. p) (λ p. absurd (omega (arith, adding.bounded _ (adding.kept _ fine)))) (adding.grows _ fine))
      (rests-or-large most w f)
    where
      fine : Fine (iterate more most w)
      fine = iterate-fine most w f

  pub iterate-smallest : (w : W) → Fine w → ((t : S) → Good t → Within (read w) t) → Smallest Within Good (read (iterate more most w))
  iterate-smallest w f h = reached-smallest (λ t g. (forced-all t g most).1) (adding.rests _ (iterate-fine most w f) (iterate-rests w f))
    where
      forced-all : (t : S) → Good t → (n : ℕ) → Fine (iterate more n w) × Within (read (iterate more n w)) t
      forced-all t g n = iterate-keeps more (λ u. Fine u × Within (read u) t)
          (λ u k. (adding.kept u k.0, adding.forced u k.0 t g k.1)) n w (f, h t g)
