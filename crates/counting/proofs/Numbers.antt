-- Laws of numbers one after the other (specs/Counts): how many they are, what stands at each place, and how a row of them is written over a
-- list place by place.
use Rattle.std.proofs.Common.{◌≡◌, ℕ, zero, suc, ◌+◌, ◌-◌, ◌<◌, ◌≤◌, List, ◌++◌, length, get_or, take, drop, set, replicate, sym, refl, ap, ◌∙◌, le_of_suc-le-suc, add-zero, add-suc, suc-add, zero-add, add-one, arith, length-take-le, get_or-drop, get_or-take, get_or-append-add, ext_get_or}
use lib.ListN.{get_or-append, get_or-replicate, length-replicate}
use lib.Seq.{paste-suc, take-length}
use Rattle.counting.specs.Counts.{numbers_from}

pub numbers-length : (i n : ℕ) (f : ℕ → ℕ) → length (numbers_from i n f) ≡ n
unfolding numbers_from
numbers-length i zero f = refl
numbers-length i (suc n) f = ap suc (numbers-length (suc i) n f)

pub numbers-at : (i n : ℕ) (f : ℕ → ℕ) (j : ℕ) → j < n → get_or (numbers_from i n f) j 0 ≡ f (i + j)
unfolding numbers_from
numbers-at i zero f j h = absurd (omega arith)
numbers-at i (suc n) f zero h = rw add-zero
numbers-at i (suc n) f (suc j) h = rw (add-suc, ← suc-add i j) (numbers-at (suc i) n f j (le_of_suc-le-suc h))

-- the place of a number in front of other numbers
pub numbers-place : (n : ℕ) (f : ℕ → ℕ) (j : ℕ) (t : List ℕ) → j < n → get_or (numbers_from 0 n f ++ t) j 0 ≡ f j
numbers-place n f j t h =
    get_or-append (numbers_from 0 n f) t 0 j (omega (arith, h, numbers-length 0 n f)) ∙ numbers-at 0 n f j h ∙ ap f (zero-add j)

-- as many equal numbers
pub numbers-equal : (n m d : ℕ) (f : ℕ → ℕ) → n ≤ m → ((j : ℕ) → f j ≡ d) → take n (replicate m d) ≡ numbers_from 0 n f
numbers-equal n m d f h same =
    let long = length-take-le n (replicate m d) (omega (arith, h, length-replicate m d)) in
    ext_get_or 0 _ _ (long ∙ sym (numbers-length 0 n f)) (λ i k.
    let z : i < n = omega (arith, k, long) in
    get_or-take n (replicate m d) i 0 z ∙ get_or-replicate m i d 0 (omega arith) ∙ sym (same i) ∙ sym (ap f (zero-add i))
    ∙ sym (numbers-at 0 n f i z))

pub numbers-same : (i n : ℕ) (f g : ℕ → ℕ) → ((j : ℕ) → i ≤ j → j < i + n → f j ≡ g j) → numbers_from i n f ≡ numbers_from i n g
unfolding numbers_from
numbers-same i zero f g same = refl
numbers-same i (suc n) f g same =
    rw (same i (omega arith) (omega arith), numbers-same (suc i) n f g (λ j h k. same j (omega arith) (omega arith)))

-- ---- a row written over a list

-- behind a row of n places that is written over a list, the list is as it was
pub behind : (row t : List ℕ) (n j : ℕ) → length row ≡ n → n ≤ j → get_or (row ++ drop n t) j 0 ≡ get_or t j 0
behind row t n j e h =
    let p : j ≡ length row + (j - n) = omega arith in
    let q : n + (j - n) ≡ j = omega arith in
    ap (λ i. get_or (row ++ drop n t) i 0) p ∙ get_or-append-add row (drop n t) (j - n) 0 ∙ get_or-drop n t (j - n) 0 ∙ ap (λ i. get_or t i 0) q

-- the first i places of the row are written
abbrev pub over : List ℕ → List ℕ → ℕ → List ℕ
over row l i = take i row ++ drop i l

module _ (row l : List ℕ) (i : ℕ) {w : List ℕ} (e : w ≡ over row l i) where
  -- the next place is as it was
  pub over-next : i ≤ length row → get_or w i 0 ≡ get_or l i 0
  over-next h = ap (λ (k : List ℕ). get_or k i 0) e ∙ behind (take i row) l i i (length-take-le i row h) (omega arith)

  pub over-more : i < length row → i < length l → {v : ℕ} → v ≡ get_or row i 0 → set w i v ≡ over row l (i + 1)
  over-more h g f = rw (e, f, add-one) (simp zero-add at (paste-suc l 0 row i 0 (omega arith) h))

  pub over-whole : {n : ℕ} → length row ≡ n → i ≡ n → w ≡ row ++ drop n l
  over-whole f g = e ∙ rw (g, ← f, take-length)
