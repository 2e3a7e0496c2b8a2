-- How the first reading alike x is found (request 3, H2 and H3). The readings alike x of the walk from the colouring that avoids what x
-- does not show, and those of the whole walk, are the same sets in the same order, so the same list, and the first of both is the same.
-- On the way down a pair may be left when a shown atom of x has all its rules off; one that is not left and has a colour for every rule
-- is alike x.
use mathlib.Core.Path.{◌≡◌, refl, sym, ◌∙◌, ap, fun_ext}
use mathlib.Core.Logic.{⊎_elim}
use mathlib.Core.Bool.{Bool, true, false, not}
use mathlib.Core.List.Memᴰ
use mathlib.Core.List.{List, [], ◌∷◌, ◌++◌, Memᴰ}
use Prim.Native.Nat.{◌≤◌}
use borrow.Author.Tests.{not-false}
use Rattle.meaning.specs.declared.AtomNo.{AtomNo}
use Rattle.meaning.specs.Written.{Tables}
use Rattle.meaning.specs.Books.{Atoms, Book, count}
use Rattle.meaning.specs.AnswerSet.{AnswerSet}
use Rattle.meaning.specs.Choice.{ifb}
use Rattle.meaning.proofs.Tests.{refuted}
use Rattle.meaning.proofs.Choice.{b-yes, b-no}
use Rattle.walk.specs.Events.{Event, events}
use Rattle.walk.specs.Readings.{readings_in, readings, Ordered, comes-first}
use Rattle.walk.specs.Shown.{alike}
use Rattle.walk.specs.FirstAlike.{avoiding, same_reading, first_among, or_else, is_this, fresh}
use Rattle.walk.specs.declared.verdict.Verdict.{Verdict}
use Rattle.walk.specs.declared.verdict.Verdict.TheVariants.{Nobody, This, Another}
use Rattle.walk.proofs.Order.{ordered_same}
use Rattle.walk.proofs.Events.{Walk, walks}
use Rattle.walk.proofs.Forks.{Stands}
use Rattle.walk.proofs.Readings.{walk-sound, walk-complete, walk-ordered, readings-all}
use Rattle.walk.proofs.ShownReadings.{answer-reading, unless, unless-by, unless-later, unless-here}
use Rattle.walk.proofs.Avoiding.{sized-avoiding, alike-stands}

-- ---- the verdict on a list

module _ (b : Book) (s : List AtomNo) (x : Atoms) where
  pub first-append : (l m : List Atoms) → first_among b s x (l ++ m) ≡ or_else (first_among b s x l) (first_among b s x m)
  unfolding first_among or_else ifb
  first-append [] m = refl
  first-append (y ∷ l) m = go (alike s x y) (same_reading b x y) (first_among b s x l) (first_among b s x (l ++ m)) (first-append l m)
    where
      go : (t u : Bool) (v w : Verdict) → w ≡ or_else v (first_among b s x m)
          → ifb t (ifb u This Another) w ≡ or_else (ifb t (ifb u This Another) v) (first_among b s x m)
      go true true v w e = refl
      go true false v w e = refl
      go false u v w e = e

  pub first-nobody : (l : List Atoms) → ((y : Atoms) → Memᴰ y l → alike s x y ≡ true → ⊥) → first_among b s x l ≡ Nobody
  unfolding first_among
  first-nobody [] f = refl
  first-nobody (y ∷ l) f =
      b-no _ _ _ (refuted (f y (Memᴰ.head refl))) ∙ first-nobody l (λ z m. f z (Memᴰ.tail m))

  -- ---- only the sets that are alike x count

  unfoldable alikes : List Atoms → List Atoms
  alikes [] = []
  alikes (y ∷ l) = unless (not (alike s x y)) y (alikes l)

  first-alikes : (l : List Atoms) → first_among b s x (alikes l) ≡ first_among b s x l
  unfolding alikes unless first_among ifb
  first-alikes [] = refl
  first-alikes (y ∷ l) = go (alike s x y) refl (first-alikes l)
    where
      go : (t : Bool) → alike s x y ≡ t → first_among b s x (alikes l) ≡ first_among b s x l
          → first_among b s x (unless (not t) y (alikes l)) ≡ ifb t (ifb (same_reading b x y) This Another) (first_among b s x l)
      go true e k = b-yes _ _ _ e
      go false e k = k

  alikes-by : (l : List Atoms) (y : Atoms) → Memᴰ y (alikes l) → Memᴰ y l × (alike s x y ≡ true)
  unfolding alikes
  alikes-by [] y m = absurd (Memᴰ.not-nil m)
  alikes-by (z ∷ l) y m = ⊎_elim
      (λ (t, q). (Memᴰ.head q, rw q (not-false _ t)))
      (λ k. let (n, e) = alikes-by l y k in (Memᴰ.tail n, e))
      (unless-by z (alikes l) (not (alike s x z)) y m)

  alikes-of : (l : List Atoms) (y : Atoms) → Memᴰ y l → alike s x y ≡ true → Memᴰ y (alikes l)
  unfolding alikes
  alikes-of [] y m e = m
  alikes-of (z ∷ l) y m e = ⊎_elim
      (λ (q : y ≡ z). rw q (unless-here z (alikes l) (not (alike s x z)) (ap not (rw q at e))))
      (λ k. unless-later z (alikes l) _ y (alikes-of l y k e)) (Memᴰ.cases_cons m)

  alikes-ordered : (l : List Atoms) → Ordered b l → Ordered b (alikes l)
  unfolding alikes unless
  alikes-ordered [] o = o
  alikes-ordered (y ∷ l) (comes-first f o) = go (not (alike s x y)) (alikes-ordered l o)
    where
      go : (t : Bool) → Ordered b (alikes l) → Ordered b (unless t y (alikes l))
      go true k = k
      go false k = comes-first (λ z m. f z (alikes-by l z m).0) k

  -- two lists in the order of readings that hold the same sets alike x have the same verdict
  pub first-same : (l m : List Atoms) → Ordered b l → Ordered b m
      → ((y : Atoms) → Memᴰ y l → alike s x y ≡ true → Memᴰ y m)
      → ((y : Atoms) → Memᴰ y m → alike s x y ≡ true → Memᴰ y l) → first_among b s x l ≡ first_among b s x m
  first-same l m o p f g = sym (first-alikes l)
      ∙ ap (first_among b s x) (ordered_same b (alikes l) (alikes m) (alikes-ordered l o) (alikes-ordered m p)
      (λ y k. let (n, e) = alikes-by l y k in alikes-of m y (f y n e) e) (λ y k. let (n, e) = alikes-by m y k in alikes-of l y (g y n e) e))
      ∙ first-alikes m

  -- ---- the walk from a colouring that all answer sets alike x are above (H2)

  module _ (fits : count b ≤ 255) where
    pub first_walk : {c : Tables} {es : List Event} → Walk b c es
        → ((y : Atoms) → AnswerSet b y → alike s x y ≡ true → Stands b c y)
        → first_among b s x (readings_in b es) ≡ first_among b s x (readings b)
    first_walk w f = first-same _ _ (walk-ordered w) (readings-all b fits).ordered
        (λ y m e. answer-reading b fits y (walk-sound w y m).answer)
        (λ y m e. let (z, k, q) = walk-complete w y (f y ((readings-all b fits).sound y m) e) in Memᴰ.cast (fun_ext q) k)

    pub first-avoiding : first_among b s x (readings_in b (events b (avoiding b s x))) ≡ first_among b s x (readings b)
    first-avoiding = first_walk (walks b fits _ (sized-avoiding b s x)) (λ y p e. alike-stands b s x fits y p e)

    pub fresh-avoiding : fresh b s x ≡ is_this (first_among b s x (readings_in b (events b (avoiding b s x))))
    unfolding fresh
    fresh-avoiding = ap is_this (sym first-avoiding)
