-- The readings of a book (demand 2; blueprint W1 to W3): the walk meets exactly the answer sets, each once, in the order that speaks of no
-- walk. By induction over the walk: at a fork the sets that have the rule come first, and all sets there have the same rules below it.
use mathlib.Core.Path.{◌≡◌, refl, ap}
use mathlib.Core.Logic.{⊎_elim}
use mathlib.Core.Bool.{not}
use mathlib.Core.List.Memᴰ
use mathlib.Core.List.{List, [], ◌∷◌, ◌++◌, Memᴰ}
use Prim.Native.Nat.{ℕ, ◌≤◌, ◌<◌}
use lib.ListN.{length, get_or}
use Rattle.meaning.specs.Written.{Tables}
use Rattle.meaning.specs.Books.{Atoms, Book, count}
use Rattle.meaning.specs.AnswerSet.{generating}
use Rattle.meaning.specs.Colours.{on_side, off_side, side}
use Rattle.meaning.specs.Written.{nothing, chosen}
use Rattle.meaning.proofs.Tests.{decided}
use Rattle.meaning.proofs.Written.{sized-nothing}
use Rattle.walk.specs.Events.{Event, clash, fork, reading, quiet, events}
use Rattle.walk.specs.Readings.{reading_of, readings_in, readings, Agree, Ordered, no_more, comes-first, AllReadings}
use Rattle.walk.proofs.Events.{Walk, at_clash, at-reading, at_fork, walks}
use Rattle.walk.proofs.Order.{ordered-append, ordered-once}
use Rattle.walk.proofs.Forks.{Stands, stands-nothing, stands-clash, stands-reading, reading-only}
use Rattle.walk.proofs.Forks.{side-stands, stands-side, fork-before}

-- ---- the readings of two lists of events

pub readings-append : (b : Book) (es fs : List Event) → readings_in b (es ++ fs) ≡ readings_in b es ++ readings_in b fs
unfolding readings_in
readings-append b [] fs = refl
readings-append b (clash r ∷ es) fs = readings-append b es fs
readings-append b (fork r ∷ es) fs = readings-append b es fs
readings-append b (reading d ∷ es) fs = ap (λ (l : List Atoms). reading_of b d ∷ l) (readings-append b es fs)
readings-append b (quiet ∷ es) fs = readings-append b es fs

-- ---- the readings of a walk

module _ {b : Book} where
  pub walk-sound : {c : Tables} {es : List Event} → Walk b c es → (x : Atoms) → Memᴰ x (readings_in b es) → Stands b c x
  unfolding readings_in
  walk-sound (at_clash k t) x m = absurd (Memᴰ.not-nil m)
  walk-sound (at-reading k t p) x m = rw (Memᴰ.eq_of_singleton m) (stands-reading k t p)
  walk-sound (at_fork f v w) x m = ⊎_elim
      (λ e. side-stands f on_side x (walk-sound v x e)) (λ e. side-stands f off_side x (walk-sound w x e))
      (Memᴰ.append_cases _ (rw (readings-append b _ _) at m))

  pub walk-complete : {c : Tables} {es : List Event} → Walk b c es → (x : Atoms) → Stands b c x
      → (y : Atoms) × Memᴰ y (readings_in b es) × Agree x y
  unfolding readings_in side
  walk-complete (at_clash k t) x s = absurd (stands-clash k t x s)
  walk-complete (at-reading {d = d} k t p) x s = (reading_of b d, Memᴰ.head refl, reading-only k t p x s)
  walk-complete (at_fork {d = d} {r = r} f v w) x s = rw (readings-append b _ _) (⊎_elim
      (λ g. let (y, m, e) = walk-complete v x (stands-side f on_side x s g) in (y, Memᴰ.append_left _ m, e))
      (λ g.
      let (y, m, e) = walk-complete w x (stands-side f off_side x s (ap not g)) in
      (y, Memᴰ.append_right (readings_in b (events b (chosen on_side r d))) m, e))
      (decided (generating b x r)))

  pub walk-ordered : {c : Tables} {es : List Event} → Walk b c es → Ordered b (readings_in b es)
  unfolding readings_in
  walk-ordered (at_clash k t) = no_more
  walk-ordered (at-reading k t p) = comes-first (λ y m. absurd (Memᴰ.not-nil m)) no_more
  walk-ordered (at_fork f v w) = rw (readings-append b _ _) (ordered-append b (walk-ordered v) (walk-ordered w)
      (λ x m y n. fork-before f x y (walk-sound v x m) (walk-sound w y n)))

-- ---- the readings of the book

module _ (b : Book) (fits : count b ≤ 255) where
  pub readings-all : AllReadings b (readings b)
  readings-all = record {
    sound = λ x m. (walk-sound walk x m).answer;
    complete = λ x p. walk-complete walk x (stands-nothing b x p);
    ordered = walk-ordered walk;
  }
    where
      walk : Walk b nothing (events b nothing)
      walk = walks b fits nothing sized-nothing

  pub each-once : (i j : ℕ) (z : Atoms) → i < j → j < length (readings b) → Agree (get_or (readings b) i z) (get_or (readings b) j z) → ⊥
  each-once i j z h k = ordered-once b (readings b) readings-all.ordered i j z h k
