-- What comes after a reading (blueprint W7): the events behind it in the walk are those that specs/Events calls the rest, for the set
-- itself and for the set that its row stands for. By induction over the walk: a fork is left on the side that the set is on.
use mathlib.Core.Path.{◌≡◌, refl, sym, ◌∙◌, ap}
use mathlib.Core.Logic.{◌⊎◌, inl, inr, ⊎_elim, ⊎_map}
use mathlib.Core.List.Memᴰ
use mathlib.Core.List.{List, [], ◌∷◌, ◌++◌, Memᴰ}
use Prim.Native.Nat.{◌≤◌}
use native.Mathlib.Omega.{arith}
use lib.ListN.{length, length-append}
use Rattle.meaning.specs.Written.{Tables}
use Rattle.meaning.specs.Books.{Atoms, Book, count}
use Rattle.meaning.specs.AnswerSet.{generating}
use Rattle.meaning.specs.Colours.{on_side, off_side}
use Rattle.meaning.specs.Written.{nothing, chosen}
use Rattle.meaning.proofs.Tests.{decided, apart}
use Rattle.meaning.proofs.Written.{sized-nothing}
use Rattle.meaning.proofs.LeastModel.{Proper, answer-inside}
use Rattle.walk.specs.Events.{Event, reading, events, rest}
use Rattle.walk.specs.Readings.{reading_of, readings_in}
use Rattle.walk.specs.Run.{row_of}
use Rattle.walk.specs.Page.{set_in}
use Rattle.walk.proofs.Events.{Walk, at_clash, at-reading, at_fork, walks}
use Rattle.walk.proofs.Events.{rest_clash, rest-reading, rest-fork-on, rest-fork-off}
use Rattle.walk.proofs.Rows.{set-in-row}
use Rattle.walk.proofs.Forks.{Stands, side-stands, side-on, side-off}
use Rattle.walk.proofs.Readings.{readings-append, walk-sound}

-- a list of two pieces, parted at an element: in the first piece or in the second
parted-at : {A : Type 0} (xs ys es : List A) (v : A) (later : List A) → xs ++ ys ≡ es ++ (v ∷ later)
    → ((l : List A) × (xs ≡ es ++ (v ∷ l)) × (later ≡ l ++ ys)) ⊎ ((l : List A) × (ys ≡ l ++ (v ∷ later)))
parted-at [] ys es v later q = inr (es, q)
parted-at (x ∷ xs) ys [] v later q = inl (xs, cc, cc)
parted-at (x ∷ xs) ys (e ∷ es) v later q =
    let p : xs ++ ys ≡ es ++ (v ∷ later) = cc in let h : x ≡ e = cc in
    ⊎_map (λ (l, u, k). (l, (λ i. h i ∷ u i), k)) (λ (l, u). (l, u)) (parted-at xs ys es v later p)

reading-member : (b : Book) (es : List Event) (d : Tables) (later : List Event)
    → Memᴰ (reading_of b d) (readings_in b (es ++ (reading d ∷ later)))
unfolding readings_in
reading-member b es d later = rw readings-append (Memᴰ.append_right (readings_in b es) (Memᴰ.head refl))

module _ {b : Book} where
  walk-rest : {c : Tables} {es : List Event} → Walk b c es → (earlier : List Event) (d : Tables) (later : List Event)
      → es ≡ earlier ++ (reading d ∷ later) → later ≡ rest b c (reading_of b d)
  walk-rest (at_clash k t) [] d later q = apart (cc)
  walk-rest (at_clash k t) (e ∷ es) d later q = absurd (omega (arith, ap length q, length-append es (reading d ∷ later)))
  walk-rest (at-reading k t p) [] d later q = let z : later ≡ [] = cc in z ∙ sym (rest-reading k t p (reading_of b d))
  walk-rest (at-reading k t p) (e ∷ es) d later q = absurd (omega (arith, ap length q, length-append es (reading d ∷ later)))
  walk-rest (at_fork f v w) [] d later q = apart (cc)
  walk-rest (at_fork {d = u} {r = r} f v w) (e ∷ es) d later q =
      let z : events b (chosen on_side r u) ++ events b (chosen off_side r u) ≡ es ++ (reading d ∷ later) = cc in
      ⊎_elim
      (λ (l, g, h).
      let m = side-on f x (walk-sound v x (rw g (reading-member b es d l))) in
      h ∙ ap (λ (m : List Event). m ++ events b (chosen off_side r u)) (walk-rest v es d l g) ∙ sym (rest-fork-on f x m))
      (λ (l, g).
      let m = side-off f x (walk-sound w x (rw g (reading-member b l d later))) in
      walk-rest w l d later g ∙ sym (rest-fork-off f x m))
      (parted-at _ _ es (reading d) later z)
    where
      x : Atoms
      x = reading_of b d

  -- what comes after any set is a part of the walk: its readings are answer sets too
  pub rest-sound : {c : Tables} {es : List Event} → Walk b c es → (x y : Atoms) → Memᴰ y (readings_in b (rest b c x)) → Stands b c y
  unfolding readings_in
  rest-sound (at_clash k t) x y m = absurd (Memᴰ.not-nil (rw (rest_clash k x t) at m))
  rest-sound (at-reading k t p) x y m = absurd (Memᴰ.not-nil (rw (rest-reading k t p x) at m))
  rest-sound (at_fork {d = d} {r = r} f v w) x y m = ⊎_elim
      (λ g. ⊎_elim (λ e. side-stands f on_side y (rest-sound v x y e)) (λ e. side-stands f off_side y (walk-sound w y e))
      (Memᴰ.append_cases (readings_in b (rest b (chosen on_side r d) x)) (rw (rest-fork-on f x g, readings-append) at m)))
      (λ g. side-stands f off_side y (rest-sound w x y (rw (rest-fork-off f x g) at m)))
      (decided (generating b x r))

module _ (b : Book) (fits : count b ≤ 255) where
  module _ (earlier : List Event) (d : Tables) (later : List Event) (q : events b nothing ≡ earlier ++ (reading d ∷ later)) where
    walk : Walk b nothing (events b nothing)
    walk = walks b fits nothing sized-nothing

    pub rest-follows : later ≡ rest b nothing (reading_of b d)
    rest-follows = walk-rest walk earlier d later q

    -- also for the set that the reading's row stands for
    pub rest-row : Proper b → later ≡ rest b nothing (set_in (row_of b (reading_of b d)))
    rest-row proper =
        let answer = (walk-sound walk (reading_of b d) (rw q (reading-member b earlier d later))).answer in
        rest-follows ∙ ap (rest b nothing) (sym (set-in-row b _ (answer-inside b fits _ proper answer)))
