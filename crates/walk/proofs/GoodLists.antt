-- Lists of shown atoms, one byte each, as a loop goes through them (src/list.rt): that a list ascends, said of what is left of it; and the
-- set of the numbers of a list that is one longer.
use mathlib.Core.Path.{◌≡◌, refl, sym, ◌∙◌, ap, fun_ext}
use mathlib.Core.Bool.{Bool, true, false, ◌&&◌, ◌||◌, or-false, false≢true}
use mathlib.Core.Logic.{◌⊎◌, inl, inr, ⊎_elim}
use mathlib.Core.List.Memᴰ
use mathlib.Core.List.{List, [], ◌∷◌, map, Memᴰ}
use Prim.Native.Nat.{ℕ, ◌+◌, ◌≤◌, ◌<◌}
use native.Mathlib.Numerals.{add-one}
use native.Mathlib.Omega.{arith}
use lib.Dec.{eqb, ltb, leb}
use lib.ListN.{length, get_or, set, take, drop, drop_of_length-le}
use lib.Seq.{take-suc, take_all, drop-cons}
use borrow.Author.Tests.{lt-ltb, le-ltb, le-leb, lt-leb, eq-eqb, ne_eqb, eqb-true}
use Rattle.meaning.specs.declared.AtomNo.{AtomNo}
use Rattle.meaning.specs.Sets.{Set, ◌∈◌, every, some, ascending}
use Rattle.meaning.specs.Books.{Book, atom_no}
use Rattle.meaning.specs.Bits.{none, members, listed}
use Rattle.meaning.proofs.Tests.{both, and_left, and_right, not_first, not-second, either, or_left, or_right, lt-or-le}
use Rattle.meaning.proofs.Sets.{some-append, every_here, every-all-next, every-all-end}
use Rattle.walk.specs.FindShown.{good_list}
use Rattle.walk.specs.Shown.{ListGood}
use Rattle.walk.specs.Search.{in_list}
use Rattle.walk.proofs.Gathering.{put-members}

-- ---- ascending

-- the list ascends and its first number is at least `least`
unfoldable pub rising : ℕ → List ℕ → Bool
rising least [] = true
rising least (x ∷ l) = leb least x && rising (x + 1) l

rising-rest : (x : ℕ) (l : List ℕ) → ascending (x ∷ l) ≡ rising (x + 1) l
unfolding ascending rising
rising-rest x [] = refl
rising-rest x (y ∷ l) = rw (rising-rest y l, add-one x)

pub rising-all : (l : List ℕ) → ascending l ≡ rising 0 l
unfolding ascending rising
rising-all [] = refl
rising-all (x ∷ l) = rw (le-leb 0 x (omega arith)) (rising-rest x l)

module _ (l : List ℕ) (least i : ℕ) where
  turn : i < length l → rising least (drop i l) ≡ (leb least (get_or l i 0) && rising (get_or l i 0 + 1) (drop (i + 1) l))
  unfolding rising
  turn h = rw (add-one i, drop-cons l i 0 h)

  pub rising-next : i < length l → least ≤ get_or l i 0 → rising least (drop i l) ≡ rising (get_or l i 0 + 1) (drop (i + 1) l)
  rising-next h g = turn h ∙ rw (le-leb _ _ g)

  -- the test as the loop makes it: each number below n, each at least one more than the one before
  module _ (n : ℕ) (r : ascending l ≡ rising least (drop i l)) where
    pub list-stops : i < length l → get_or l i 0 < least → false ≡ good_list n l
    unfolding good_list
    list-stops h g = sym (not_first _ (r ∙ turn h ∙ not_first _ (lt-leb _ _ g)))

    pub list-end : length l ≤ i → every (λ x. ltb x n) (take i l) ≡ true → true ≡ good_list n l
    unfolding good_list rising
    list-end h e = sym (both (r ∙ rw (drop_of_length-le l h)) (every-all-end _ l i h e))

pub list-out : (l : List ℕ) (i n : ℕ) → i < length l → n ≤ get_or l i 0 → false ≡ good_list n l
unfolding good_list
list-out l i n h g = sym (not-second (ascending l) (every_here _ l i 0 h (le-ltb _ _ g)))

pub list-next : (l : List ℕ) (i n : ℕ) → i < length l → get_or l i 0 < n → every (λ x. ltb x n) (take i l) ≡ true
    → every (λ x. ltb x n) (take (i + 1) l) ≡ true
list-next l i n h g e = every-all-next _ l i 0 h (lt-ltb _ _ g) e

numbers : (l : List ℕ) → map (λ (a : AtomNo). a.0) (map atom_no l) ≡ l
numbers [] = refl
numbers (x ∷ l) = ap (λ (k : List ℕ). x ∷ k) (numbers l)

-- as the laws of shown readings speak of it
pub list-good : (b : Book) (l : List ℕ) → good_list b.atoms l ≡ true → ListGood b (map atom_no l)
unfolding good_list every
list-good b l e = record {
  ascends = ap ascending (numbers l) ∙ and_left (ascending l) _ e;
  in-book = each l (and_right (ascending l) _ e);
}
  where
    each : (l : List ℕ) → every (λ a. ltb a b.atoms) l ≡ true → every (λ a. ltb a.0 b.atoms) (map atom_no l) ≡ true
    each [] e = refl
    each (x ∷ l) e = both (and_left (ltb x b.atoms) _ e) (each l (and_right (ltb x b.atoms) _ e))

-- ---- the set of a list

module _ (l : List ℕ) where
  pub mask_start : (w : List ℕ) → members w ≡ none → members w ≡ in_list (take 0 l)
  unfolding in_list some
  mask_start w e = e

  pub mask_next : (w v : List ℕ) (i : ℕ) → i < length l → get_or l i 0 < 256 → members v ≡ in_list (take i l)
      → listed w ≡ set (listed v) (get_or l i 0) true → members w ≡ in_list (take (i + 1) l)
  unfolding in_list some
  mask_next w v i h g e f = fun_ext (λ j. step j ∙ sym (longer j))
    where
      longer : (j : ℕ) → some (eqb j) (take (i + 1) l) ≡ (some (eqb j) (take i l) || some (eqb j) (get_or l i 0 ∷ []))
      longer j = rw (add-one i, take-suc l i 0 h) (some-append (eqb j) (take i l) (get_or l i 0 ∷ []))

      last : (j : ℕ) → some (eqb j) (get_or l i 0 ∷ []) ≡ eqb j (get_or l i 0)
      last j = or-false (eqb j (get_or l i 0))

      same_or_not : (a b : ℕ) → (a ≡ b) ⊎ (a ≡ b → ⊥)
      same_or_not a b = ⊎_elim (λ h. inr (λ z. omega arith)) (λ h. ⊎_elim (λ g. inr (λ z. omega arith)) (λ g. inl (omega arith)) (lt-or-le b a))
          (lt-or-le a b)

      step : (j : ℕ) → members w j ≡ (some (eqb j) (take i l) || some (eqb j) (get_or l i 0 ∷ []))
      step j = ⊎_elim
          (λ (z : j ≡ get_or l i 0). rw z (put-members w v (get_or l i 0) g f).0 ∙ sym (or_right (some (eqb j) (take i l)) (last j ∙ eq-eqb j (get_or l i 0) z)))
          (λ n. (put-members w v (get_or l i 0) g f).1 j n ∙ ap (λ (s : Set ℕ). s j) e
          ∙ sym (ap (λ (x : Bool). some (eqb j) (take i l) || x) (last j ∙ ne_eqb j (get_or l i 0) n) ∙ or-false (some (eqb j) (take i l))))
          (same_or_not j (get_or l i 0))

  pub mask_end : (w : List ℕ) (i : ℕ) → length l ≤ i → members w ≡ in_list (take i l) → members w ≡ in_list l
  mask_end w i h e = e ∙ ap in_list (take_all i l h)

  -- its members as atoms
  pub list_at : (a : AtomNo) → Memᴰ a (map atom_no l) → a.0 ∈ in_list l
  unfolding in_list some
  list_at a m = go l m
    where
      go : (l : List ℕ) → Memᴰ a (map atom_no l) → some (eqb a.0) l ≡ true
      go [] m = absurd (Memᴰ.not-nil m)
      go (x ∷ l) m = ⊎_elim (λ (z : a ≡ atom_no x). or_left _ (eq-eqb _ _ (ap (λ (c : AtomNo). c.0) z)))
          (λ k. or_right (eqb a.0 x) (go l k)) (Memᴰ.cases_cons m)

  pub list_of : (a : AtomNo) → a.0 ∈ in_list l → Memᴰ a (map atom_no l)
  unfolding in_list some
  list_of a m = go l m
    where
      go : (l : List ℕ) → some (eqb a.0) l ≡ true → Memᴰ a (map atom_no l)
      go [] m = absurd (false≢true m)
      go (x ∷ l) m = ⊎_elim (λ z. let e = eqb-true a.0 x z in Memᴰ.head (λ i. record { 0 = e i })) (λ k. Memᴰ.tail (go l k))
          (either (eqb a.0 x) _ m)

pub good-list : (b : Book) (l : List ℕ) → ListGood b (map atom_no l) → good_list b.atoms l ≡ true
unfolding good_list every
good-list b l g = both (sym (ap ascending (numbers l)) ∙ g.ascends) (each l g.in-book)
  where
    each : (l : List ℕ) → every (λ (a : AtomNo). ltb a.0 b.atoms) (map atom_no l) ≡ true → every (λ a. ltb a b.atoms) l ≡ true
    each [] e = refl
    each (x ∷ l) e = both (and_left (ltb x b.atoms) _ e) (each l (and_right (ltb x b.atoms) _ e))
