-- One part of a body, and one record, as lists: that the check finds nothing wrong says of a part that it ascends and that its atoms are
-- below n, and of a record its limits, its head and its two parts; and back. By recursion on the bytes, with the tests as laws.
-- Document 01, "The rule book".
use mathlib.Core.Path.{◌≡◌, refl, ◌∙◌}
use mathlib.Core.Bool.{true}
use mathlib.Core.Logic.{⊎_elim}
use mathlib.Core.List.Memᴰ
use mathlib.Core.List.{List, [], ◌∷◌, Memᴰ}
use Prim.Native.Nat.{ℕ, ◌+◌, ◌≤◌, ◌<◌}
use native.Mathlib.Omega.{arith}
use lib.ListN.{length, get_or}
use lib.Dec.{ltb}
use borrow.Author.Tests.{lt-ltb, ltb-true}
use Rattle.meaning.specs.Choice.{if_lt}
use Rattle.meaning.specs.Sets.{ascending}
use Rattle.meaning.proofs.Choice.{lt_yes, lt_no, lt-either}
use Rattle.meaning.proofs.Tests.{both, and_left, and_right}
use Rattle.book.specs.Format.{Check, fine, wrong, part_of, and_then, positive_bytes, negative_bytes, bytes_of, record_of, length_of}

-- ---- what a check's answer says

pub not-fine : {A : Type 0} {i at : ℕ} → wrong i at ≡ fine → A
not-fine e = let z : ◌≡◌ {A = ℕ} 0 1 = cc in absurd (omega arith)

pub then-first : (c d : Check) → and_then c d ≡ fine → c ≡ fine
unfolding and_then
then-first fine d e = refl
then-first (wrong i at) d e = e

pub then-second : (c d : Check) → and_then c d ≡ fine → d ≡ fine
unfolding and_then
then-second fine d e = e
then-second (wrong i at) d e = not-fine e

pub then-fine : {c d : Check} → c ≡ fine → d ≡ fine → and_then c d ≡ fine
unfolding and_then
then-fine p q = rw (p, q)

-- a choice that is fine, where the other side is a refusal
module _ (m n i at : ℕ) (c : Check) where
  fine-below : if_lt m n c (wrong i at) ≡ fine → (m < n) × (c ≡ fine)
  fine-below = lt-either (λ x. x ≡ fine → (m < n) × (c ≡ fine)) m n c (wrong i at) (λ h e. (h, e)) (λ h e. not-fine e)

  fine-from : if_lt m n (wrong i at) c ≡ fine → (n ≤ m) × (c ≡ fine)
  fine-from = lt-either (λ x. x ≡ fine → (n ≤ m) × (c ≡ fine)) m n (wrong i at) c (λ h e. not-fine e) (λ h e. (h, e))

-- ---- one part of a body

-- the first byte, if there is one, is at least `least`
data From (least : ℕ) : List ℕ → Type 0 where
  none : From least []
  some : (x : ℕ) {l : List ℕ} → least ≤ x → From least (x ∷ l)

pub record PartFine (n : ℕ) (l : List ℕ) : Type 0 where
  pub ascends : ascending l ≡ true
  pub below : (x : ℕ) → Memᴰ x l → x < n

ascends-more : (x : ℕ) {l : List ℕ} → From (x + 1) l → ascending l ≡ true → ascending (x ∷ l) ≡ true
unfolding ascending
ascends-more x none e = refl
ascends-more x (some y h) e = both (lt-ltb x y (omega arith)) e

ascends-rest : (x : ℕ) (l : List ℕ) → ascending (x ∷ l) ≡ true → From (x + 1) l × (ascending l ≡ true)
unfolding ascending
ascends-rest x [] e = (none, refl)
ascends-rest x (y ∷ l) e = (some y (omega (arith, ltb-true x y (and_left _ _ e))), and_right (ltb x y) _ e)

pub ascends-after : (x : ℕ) (l : List ℕ) → ascending (x ∷ l) ≡ true → ascending l ≡ true
ascends-after x l e = (ascends-rest x l e).1

-- the first number is below all others
pub ascends-first : (x : ℕ) (l : List ℕ) → ascending (x ∷ l) ≡ true → (y : ℕ) → Memᴰ y l → x < y
unfolding ascending
ascends-first x [] e y m = absurd (Memᴰ.not-nil m)
ascends-first x (z ∷ l) e y m =
    ⊎_elim (λ p. omega (arith, next)) (λ k. omega (arith, next, ascends-first z l (ascends-after x (z ∷ l) e) y k)) (Memᴰ.cases_cons m)
  where
    next : x < z
    next = ltb-true x z (and_left _ _ e)

from-fine : (n at least : ℕ) (l : List ℕ) → part_of n at least l ≡ fine → From least l × PartFine n l
unfolding part_of ascending
from-fine n at least [] e = (none, record { ascends = refl; below = λ x m. elim m [ ] })
from-fine n at least (x ∷ l) e =
    let (h, e₁) = fine-below _ _ _ _ _ e in
    let (k, e₂) = fine-from _ _ _ _ _ e₁ in
    let (f, p) = from-fine n (at + 1) (x + 1) l e₂ in
    (some x k, record { ascends = ascends-more x f p.ascends; below = below h p.below })
  where
    below : x < n → ((y : ℕ) → Memᴰ y l → y < n) → (y : ℕ) → Memᴰ y (x ∷ l) → y < n
    below h g y (Memᴰ.head q) = rw q h
    below h g y (Memᴰ.tail m) = g y m

to-fine : (n at least : ℕ) (l : List ℕ) → From least l → PartFine n l → part_of n at least l ≡ fine
unfolding part_of
to-fine n at least [] f p = refl
to-fine n at least (x ∷ l) (some _ h) p =
    let (f, e) = ascends-rest x l p.ascends in
    let q : PartFine n l = record { ascends = e; below = λ y m. p.below y (Memᴰ.tail m) } in
    lt_yes _ _ _ _ (p.below x (Memᴰ.head refl)) ∙ lt_no _ _ _ _ h ∙ to-fine n (at + 1) (x + 1) l f q

pub part-fine : (n at : ℕ) (l : List ℕ) → part_of n at 0 l ≡ fine → PartFine n l
part-fine n at l e = (from-fine n at 0 l e).1

pub part-checked : (n at : ℕ) (l : List ℕ) → PartFine n l → part_of n at 0 l ≡ fine
part-checked n at l p = to-fine n at 0 l (from_zero l) p
  where
    from_zero : (l : List ℕ) → From 0 l
    from_zero [] = none
    from_zero (x ∷ l) = some x (omega arith)

-- ---- one record

pub record RecordFine (n : ℕ) (s : List ℕ) : Type 0 where
  pub room : 3 ≤ length s
  pub few-pos : get_or s 1 0 ≤ 16
  pub few-neg : get_or s 2 0 ≤ 16
  pub ends : length_of s ≤ length s
  pub head : get_or s 0 0 < n
  pub pos : PartFine n (positive_bytes s (get_or s 1 0))
  pub neg : PartFine n (negative_bytes s (get_or s 1 0) (get_or s 2 0))

pub record-fine : (n at : ℕ) (s : List ℕ) → record_of n at s ≡ fine → RecordFine n s
unfolding record_of bytes_of length_of
record-fine n at s e =
    let (room, e₁) = fine-from _ _ _ _ _ e in
    let (few-pos, e₂) = fine-from _ _ _ _ _ e₁ in
    let (few-neg, e₃) = fine-from _ _ _ _ _ e₂ in
    let (ends, e₄) = fine-from _ _ _ _ _ e₃ in
    let (head, e₅) = fine-below _ _ _ _ _ e₄ in
    record {
      room = room;
      few-pos = few-pos;
      few-neg = few-neg;
      ends = ends;
      head = head;
      pos = part-fine n _ _ (then-first _ _ e₅);
      neg = part-fine n _ _ (then-second _ _ e₅);
    }

pub record-checked : (n at : ℕ) (s : List ℕ) → RecordFine n s → record_of n at s ≡ fine
unfolding record_of bytes_of length_of
record-checked n at s f =
    lt_no _ _ _ _ f.room
    ∙ lt_no _ _ _ _ f.few-pos
    ∙ lt_no _ _ _ _ f.few-neg
    ∙ lt_no _ _ _ _ f.ends
    ∙ lt_yes _ _ _ _ f.head
    ∙ then-fine (part-checked n _ _ f.pos) (part-checked n _ _ f.neg)
