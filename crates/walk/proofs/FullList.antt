-- A good list of shown atoms that is as long as the book has atoms holds all of them: a strictly ascending list from i on leaves no number
-- out if it is as long as there are numbers. So such a list needs no search.
use mathlib.Core.Path.{◌≡◌}
use mathlib.Core.Logic.{⊎_elim}
use mathlib.Core.Bool.{true}
use mathlib.Core.List.{List, [], ◌∷◌, map, Memᴰ}
use Prim.Native.Nat.{ℕ, suc, ◌+◌, ◌≤◌, ◌<◌}
use native.Mathlib.Nat.{eq-or-lt_of_le}
use native.Mathlib.Omega.{arith}
use lib.Dec.{ltb}
use lib.ListN.{length}
use borrow.Author.Tests.{ltb-true}
use Rattle.meaning.specs.declared.AtomNo.{AtomNo}
use Rattle.meaning.specs.Sets.{every, ascending}
use Rattle.meaning.specs.Books.{Book, count}
use Rattle.meaning.specs.Written.{nothing}
use Rattle.meaning.proofs.Tests.{and_left, and_right}
use Rattle.meaning.proofs.LeastModel.{Proper}
use Rattle.walk.specs.Events.{events}
use Rattle.walk.specs.Shown.{shown_events, ListGood}
use Rattle.walk.proofs.Fresh.{shown-all}

abbrev numbered : List AtomNo → List ℕ
numbered s = map (λ a. a.0) s

module _ (n : ℕ) where
  abbrev Below : List AtomNo → Type 0
  Below s = every (λ a. ltb a.0 n) s ≡ true

  -- an ascending list fits between its first number and n
  room : (a : AtomNo) (s : List AtomNo) → ascending (numbered (a ∷ s)) ≡ true → Below (a ∷ s) → a.0 + length (a ∷ s) ≤ n
  unfolding ascending every
  room a [] e f = omega (arith, ltb-true a.0 n (and_left (ltb a.0 n) _ f))
  room a (c ∷ s) e f = omega (
    arith,
    ltb-true a.0 c.0 (and_left (ltb a.0 c.0) _ e),
    room c s (and_right (ltb a.0 c.0) _ e) (and_right (ltb a.0 n) _ f),
  )

  -- the numbers of the list start at i or later, and are as many as there are from i to n
  full : (i : ℕ) (a : AtomNo) (s : List AtomNo) → ascending (numbered (a ∷ s)) ≡ true → Below (a ∷ s) → i ≤ a.0 → i + length (a ∷ s) ≡ n
      → (c : AtomNo) → i ≤ c.0 → c.0 < n → Memᴰ c (a ∷ s)
  unfolding ascending every
  full i a [] e f h k c l m = let z : c.0 ≡ a.0 = omega (arith, ltb-true a.0 n (and_left (ltb a.0 n) _ f)) in
      Memᴰ.head (λ j. record { 0 = z j })
  full i a (d ∷ s) e f h k c l m =
      let z : i ≡ a.0 = omega (arith, room a (d ∷ s) e f) in
      let u = ltb-true a.0 d.0 (and_left (ltb a.0 d.0) _ e) in
      ⊎_elim (λ (q : i ≡ c.0). let y : c.0 ≡ a.0 = omega arith in Memᴰ.head (λ j. record { 0 = y j }))
      (λ q. Memᴰ.tail (full (suc i) d s (and_right (ltb a.0 d.0) _ e) (and_right (ltb a.0 n) _ f) (omega arith) (omega arith) c q m))
      (eq-or-lt_of_le l)

pub good-list-full : (b : Book) (s : List AtomNo) → ListGood b s → length s ≡ b.atoms → (a : AtomNo) → a.0 < b.atoms → Memᴰ a s
good-list-full b [] g k a h = absurd (omega arith)
good-list-full b (c ∷ s) g k a h = full b.atoms 0 c s g.ascends g.in-book (omega arith) (omega arith) a (omega arith) h

pub full-list-all : (b : Book) → count b ≤ 255 → Proper b → (s : List AtomNo) → ListGood b s → length s ≡ b.atoms
    → shown_events b s ≡ events b nothing
full-list-all b fits proper s g k = shown-all b fits proper s (good-list-full b s g k)
