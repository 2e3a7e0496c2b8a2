-- Laws of sets of rules written out: what is read from a list after additions and after one store; that lists of one length are equal
-- if they stand for one set; and that a list that holds another of its length is that one or has more places that say yes.
use mathlib.Core.Path.{◌≡◌, refl, sym, ◌∙◌, ap, subst, fun_ext}
use mathlib.Core.Logic.{◌⊎◌, inl, inr, ⊎_elim, ⊎_map}
use mathlib.Core.Bool.{Bool, true, false, ◌||◌, false≢true, or-false}
use mathlib.Core.List.{List, [], ◌∷◌}
use Prim.Native.Nat.{ℕ, zero, suc, ◌+◌, ◌≤◌, ◌<◌, suc-le-suc}
use native.Mathlib.Nat.{not-suc-le-zero, le_of_suc-le-suc, zero-add, add-suc, suc-add, add-zero, suc_inj}
use native.Mathlib.Omega.{arith}
use lib.ListN.{length, get_or, set, replicate, length-replicate, length-set}
use lib.Seq.{ext_get_or, get_or-set_same, get_or-set_other}
use Rattle.meaning.specs.declared.RuleNo.{RuleNo}
use Rattle.meaning.specs.Sets.{Set, ◌∈◌, ◌∉◌, ◌⊆◌}
use Rattle.meaning.specs.Books.{Rules, rule_no, among, Book, count, InBook}
use Rattle.meaning.specs.Colours.{Side, on_side, off_side, put, plus, start}
use Rattle.meaning.specs.Written.{Tables, of, add_from, added, nothing, colour_on, colour_off, chosen, pair}
use Rattle.meaning.proofs.Tests.{or_left, or_right, decided, true-and-false}
use Rattle.meaning.proofs.Rules.{among_one, one-among, in-book-or-not}

-- ---- reading

-- what is in a list is a place of it
pub place-below : (l : List Bool) (i : ℕ) → get_or l i false ≡ true → i < length l
place-below [] i e = absurd (false≢true e)
place-below (x ∷ l) zero e = omega arith
place-below (x ∷ l) (suc i) e = suc-le-suc (place-below l i e)

pub of-same : (l m : List Bool) → length l ≡ length m → ((r : RuleNo) → of l r ≡ of m r) → l ≡ m
unfolding of
of-same l m e f = ext_get_or false l m e (λ i h. f (rule_no i))

pub of_none : (n : ℕ) (r : RuleNo) → of (replicate n false) r ≡ false
unfolding of
of_none n r = none n r.0
  where
    none : (n i : ℕ) → get_or (replicate n false) i false ≡ false
    none zero i = refl
    none (suc n) zero = refl
    none (suc n) (suc i) = none n i

-- ---- the rules of a set added

length_from : (i n : ℕ) (s : Set ℕ) (l : List Bool) → length (add_from i n s l) ≡ length l
unfolding add_from
length_from i zero s l = refl
length_from i (suc n) s [] = refl
length_from i (suc n) s (x ∷ l) = ap suc (length_from (suc i) n s l)

from_in : (i n : ℕ) (s : Set ℕ) (l : List Bool) (j : ℕ) → j < n → j < length l
    → get_or (add_from i n s l) j false ≡ (get_or l j false || s (i + j))
unfolding add_from
from_in i zero s l j h k = absurd (not-suc-le-zero h)
from_in i (suc n) s [] j h k = absurd (not-suc-le-zero k)
from_in i (suc n) s (x ∷ l) zero h k = rw add-zero
from_in i (suc n) s (x ∷ l) (suc j) h k =
    rw (add-suc, ← suc-add i j) (from_in (suc i) n s l j (le_of_suc-le-suc h) (le_of_suc-le-suc k))

from_out : (i n : ℕ) (s : Set ℕ) (l : List Bool) (j : ℕ) → n ≤ j → get_or (add_from i n s l) j false ≡ get_or l j false
unfolding add_from
from_out i zero s l j h = refl
from_out i (suc n) s [] j h = refl
from_out i (suc n) s (x ∷ l) zero h = absurd (not-suc-le-zero h)
from_out i (suc n) s (x ∷ l) (suc j) h = from_out (suc i) n s l j (le_of_suc-le-suc h)

module _ (b : Book) (s : Rules) (l : List Bool) where
  pub length-added : length (added b s l) ≡ length l
  unfolding added
  length-added = length_from 0 (count b) (λ n. s (rule_no n)) l

  pub of-added : count b ≤ length l → (r : RuleNo) → InBook b r → of (added b s l) r ≡ (of l r || s r)
  unfolding of added
  of-added g r h =
      from_in 0 (count b) (λ n. s (rule_no n)) l r.0 h (omega arith)
      ∙ ap (λ (n : ℕ). get_or l r.0 false || s (rule_no n)) (zero-add r.0)

  pub of-added-outside : (r : RuleNo) → count b ≤ r.0 → of (added b s l) r ≡ of l r
  unfolding of added
  of-added-outside r h = from_out 0 (count b) (λ n. s (rule_no n)) l r.0 h

  pub added-above : count b ≤ length l → of l ⊆ of (added b s l)
  added-above g r m = ⊎_elim (λ h. of-added g r h ∙ or_left _ m) (λ h. of-added-outside r h ∙ m) (in-book-or-not b r)

-- ---- one rule put in

of-set-same : (l : List Bool) (q r : RuleNo) → r.0 < length l → q ≡ r → q ∈ of (set l r.0 true)
unfolding of
of-set-same l q r h e = rw e (get_or-set_same l r.0 true false h)

of-set-other : (l : List Bool) (q r : RuleNo) → (q ≡ r → ⊥) → of (set l r.0 true) q ≡ of l q
unfolding of
of-set-other l q r n = get_or-set_other l r.0 q.0 true false (λ e. n (λ i. record { 0 = e i }))

pub of-set : (l : List Bool) (r : RuleNo) → r.0 < length l → of (set l r.0 true) ≡ plus (of l) (r ∷ [])
of-set l r h = fun_ext (λ q. ⊎_elim (here q) (there q) (decided (among (r ∷ []) q)))
  where
    here : (q : RuleNo) → q ∈ among (r ∷ []) → of (set l r.0 true) q ≡ (of l q || among (r ∷ []) q)
    here q m = of-set-same l q r h (among_one m) ∙ sym (or_right (of l q) m)

    there : (q : RuleNo) → q ∉ among (r ∷ []) → of (set l r.0 true) q ≡ (of l q || among (r ∷ []) q)
    there q n = of-set-other l q r (λ e. true-and-false (rw e (one-among r)) n) ∙ rw n (sym (or-false _))

module _ (c : Tables) (r : RuleNo) where
  pub pair-on : r.0 < length c.on → pair (colour_on r c) ≡ put on_side (r ∷ []) (pair c)
  unfolding put
  pair-on h = let e = of-set c.on r h in λ i. record { on = e i; off = of c.off }

  pub pair-off : r.0 < length c.off → pair (colour_off r c) ≡ put off_side (r ∷ []) (pair c)
  unfolding put
  pair-off h = let e = of-set c.off r h in λ i. record { on = of c.on; off = e i }

pub pair-nothing : pair nothing ≡ start
pair-nothing = let e : of (replicate 256 false) ≡ (λ r. false) = fun_ext (of_none 256) in λ i. record { on = e i; off = e i }

-- ---- tables of the right length: 256 places for a set of rules, 255 levels

pub record Sized (c : Tables) : Type 0 where
  pub on : length c.on ≡ 256
  pub off : length c.off ≡ 256
  pub marks : length c.marks ≡ 256
  pub levels : length c.levels ≡ 255

pub sized-nothing : Sized nothing
sized-nothing = let e = length-replicate 256 false in record { on = e; off = e; marks = e; levels = length-replicate {A = ℕ} 255 0 }

pub sized_on : (r : RuleNo) {c : Tables} → Sized c → Sized (colour_on r c)
sized_on r {c} s = record { on = length-set c.on r.0 true ∙ s.on; off = s.off; marks = s.marks; levels = s.levels }

pub sized-off : (r : RuleNo) {c : Tables} → Sized c → Sized (colour_off r c)
sized-off r {c} s = record { on = s.on; off = length-set c.off r.0 true ∙ s.off; marks = s.marks; levels = s.levels }

pub sized-chosen : (x : Side) (r : RuleNo) {c : Tables} → Sized c → Sized (chosen x r c)
sized-chosen x r {c} s = by x
  where
    long : length (set c.levels r.0 (c.level + 1)) ≡ 255
    long = length-set c.levels r.0 (c.level + 1) ∙ s.levels

    by : (x : Side) → Sized (chosen x r c)
    by on_side = let k = sized_on r s in record { on = k.on; off = k.off; marks = k.marks; levels = long }
    by off_side = let k = sized-off r s in record { on = k.on; off = k.off; marks = k.marks; levels = long }

-- a table has room for the book
pub room : (b : Book) → count b ≤ 255 → count b ≤ 256
room b h = omega arith

-- the places from R on are those of c
pub record Untouched (b : Book) (c d : Tables) : Type 0 where
  pub on : (r : RuleNo) → count b ≤ r.0 → of d.on r ≡ of c.on r
  pub off : (r : RuleNo) → count b ≤ r.0 → of d.off r ≡ of c.off r

-- ---- growing

-- how many of the first n places say yes
pub size : ℕ → List Bool → ℕ
size zero l = zero
size (suc n) [] = zero
size (suc n) (true ∷ l) = suc (size n l)
size (suc n) (false ∷ l) = size n l

pub size-le : (n : ℕ) (l : List Bool) → size n l ≤ n
unfolding size
size-le zero l = omega arith
size-le (suc n) [] = omega arith
size-le (suc n) (true ∷ l) = suc-le-suc (size-le n l)
size-le (suc n) (false ∷ l) = omega (arith, size-le n l)

-- the list holds another of its length, and only the first n places may differ
pub grows : (n : ℕ) (l m : List Bool) → length l ≡ length m → of l ⊆ of m → ((r : RuleNo) → n ≤ r.0 → of l r ≡ of m r)
    → (l ≡ m) ⊎ (size n l < size n m)
unfolding size of
grows zero l m e h k = inl (of-same l m e (λ r. k r (omega arith)))
grows (suc n) [] [] e h k = inl refl
grows (suc n) [] (y ∷ m) e h k = absurd (omega arith)
grows (suc n) (x ∷ l) [] e h k = absurd (omega arith)
grows (suc n) (x ∷ l) (y ∷ m) e h k =
    front x y (h (rule_no 0))
    (grows n l m (suc_inj e) (λ r. h (rule_no (suc r.0))) (λ r g. k (rule_no (suc r.0)) (suc-le-suc g)))
  where
    front : (x y : Bool) → (x ≡ true → y ≡ true) → (l ≡ m) ⊎ (size n l < size n m)
        → ((x ∷ l) ≡ (y ∷ m)) ⊎ (size (suc n) (x ∷ l) < size (suc n) (y ∷ m))
    front true true f p = ⊎_map (ap (λ (k : List Bool). true ∷ k)) suc-le-suc p
    front true false f p = absurd (false≢true (f refl))
    front false true f p = inr (⊎_elim (λ (q : l ≡ m). rw q (omega arith)) (λ (q : size n l < size n m). omega arith) p)
    front false false f p = ⊎_map (ap (λ (k : List Bool). false ∷ k)) (λ q. q) p

pub added-grows : (b : Book) (s : Rules) (l : List Bool) → count b ≤ length l
    → (l ≡ added b s l) ⊎ (size (count b) l < size (count b) (added b s l))
added-grows b s l g =
    grows (count b) l (added b s l) (sym (length-added b s l)) (added-above b s l g) (λ r h. sym (of-added-outside b s l r h))

-- a list to which nothing is added holds every rule of the book that was to be added
pub added-rests : (b : Book) (s : Rules) (l : List Bool) → count b ≤ length l → l ≡ added b s l
    → (r : RuleNo) → InBook b r → r ∈ s → r ∈ of l
added-rests b s l g e r h m = subst (λ (k : List Bool). r ∈ of k) (sym e) (of-added b s l g r h ∙ or_right (of l r) m)
