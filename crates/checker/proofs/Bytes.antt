-- Rules as bytes, and parts of a paper as lists: what the laws of branches and of the witness need of lists. Document 01, "The paper".
use mathlib.Core.Path.{◌≡◌, sym, ◌∙◌, ap}
use mathlib.Core.List.{List, [], ◌∷◌, ◌++◌, map, map-map, map-id, Memᴰ}
use Prim.Native.Nat.{ℕ, suc, ◌+◌, ◌-◌, ◌≤◌, ◌<◌}
use native.Mathlib.Nat.{add-zero}
use native.Mathlib.Numerals.{add-one}
use native.Mathlib.Omega.{arith}
use lib.ListN.{length, get_or, drop, length-take, length-drop, length-map}
use lib.Seq.{drop-cons, take-add, take_at, drop-drop, drop-append_seam, get_or-drop}
use Rattle.meaning.specs.declared.RuleNo.{RuleNo}
use Rattle.meaning.specs.Sets.{◌∈◌}
use Rattle.meaning.specs.Books.{rule_no, among}
use Rattle.meaning.specs.Paper.{numbers}
use Rattle.meaning.proofs.Rules.{among-member, member-among}
use Rattle.book.specs.Format.{part_from}
use Rattle.checker.specs.Rows.{list_at}

-- ---- rules and their numbers

pub rules-back : (w : List RuleNo) → map rule_no (numbers w) ≡ w
rules-back w = map-map rule_no (λ r. r.0) w ∙ map-id w

pub numbers-back : (l : List ℕ) → numbers (map rule_no l) ≡ l
numbers-back l = map-map (λ r. r.0) rule_no l ∙ map-id l

pub number-member : (l : List ℕ) (r : RuleNo) → r ∈ among (map rule_no l) → Memᴰ r.0 l
number-member l r m = back l (among-member (map rule_no l) r m)
  where
    back : (l : List ℕ) → Memᴰ r (map rule_no l) → Memᴰ r.0 l
    back [] h = elim h [ ]
    back (n ∷ l) (Memᴰ.head p) = Memᴰ.head (ap (λ (q : RuleNo). q.0) p)
    back (n ∷ l) (Memᴰ.tail m) = Memᴰ.tail (back l m)

pub member-rule : (l : List ℕ) (n : ℕ) → Memᴰ n l → rule_no n ∈ among (map rule_no l)
member-rule l n m = member-among (map rule_no l) (rule_no n) (there l m)
  where
    there : (l : List ℕ) → Memᴰ n l → Memᴰ (rule_no n) (map rule_no l)
    there [] h = elim h [ ]
    there (i ∷ l) (Memᴰ.head p) = Memᴰ.head (ap rule_no p)
    there (i ∷ l) (Memᴰ.tail m) = Memᴰ.tail (there l m)

-- ---- parts of a paper

module _ (s : List ℕ) (m : ℕ) where
  pub part_none : part_from s m m ≡ []
  part_none = let e : m - m ≡ 0 = omega arith in rw e

  pub part-one : (at : ℕ) → at < m → m ≤ length s → part_from s m at ≡ get_or s at 0 ∷ part_from s m (at + 1)
  part-one at h k =
      let e : m - at ≡ suc (m - (at + 1)) = omega arith in
      rw (e, drop-cons s at 0 (omega arith), add-one at)

  pub part-two : (at : ℕ) → at + 2 ≤ m → m ≤ length s → part_from s m at ≡ get_or s at 0 ∷ (get_or s (at + 1) 0 ∷ part_from s m (at + 2))
  part-two at h k =
      let e : at + 1 + 1 ≡ at + 2 = omega arith in
      part-one at (omega arith) k ∙ rw (part-one (at + 1) (omega arith) k, e)

  pub part-split : (at n : ℕ) → n ≤ m → at ≤ n → part_from s m at ≡ part_from s n at ++ part_from s m n
  part-split at n h k =
      let e : m - at ≡ (n - at) + (m - n) = omega arith in
      let g : at + (n - at) ≡ n = omega arith in
      rw (e, take-add (n - at) (m - n) (drop at s), drop-drop (n - at) at s, g)

-- ---- what is read where a list stands

module _ (s : List ℕ) (at : ℕ) where
  pub read_one : {x : ℕ} {l : List ℕ} → drop at s ≡ x ∷ l → (get_or s at 0 ≡ x) × (drop (at + 1) s ≡ l)
  read_one e =
      let g : get_or s at 0 ≡ get_or (drop at s) 0 0 = rw (get_or-drop at s 0 0, add-zero at) in
      (g ∙ ap (λ (l : List ℕ). get_or l 0 0) e, sym (drop-drop 1 at s) ∙ ap (drop 1) e)

  pub read_past : (l : List ℕ) {rest : List ℕ} → drop at s ≡ l ++ rest → drop (at + length l) s ≡ rest
  read_past l {rest} e = sym (drop-drop (length l) at s) ∙ ap (drop (length l)) e ∙ drop-append_seam l rest

pub read-two : (s : List ℕ) (at : ℕ) {x y : ℕ} {l : List ℕ} → drop at s ≡ x ∷ (y ∷ l)
    → (get_or s at 0 ≡ x) × (get_or s (at + 1) 0 ≡ y) × (drop (at + 2) s ≡ l)
read-two s at {l = l} e =
    let (p, e₁) = read_one s at e in
    let (q, e₂) = read_one s (at + 1) e₁ in
    let n : at + 1 + 1 ≡ at + 2 = omega arith in
    (p, q, rw n at e₂)

-- ---- the list of a step

module _ (s : List ℕ) (at : ℕ) where
  pub list_length : at + 2 + get_or s (at + 1) 0 ≤ length s → length (map rule_no (list_at s at)) ≡ get_or s (at + 1) 0
  list_length h = simp (length-map, length-take, length-drop) (omega arith)

  pub part-listed : (m : ℕ) → at + 2 + get_or s (at + 1) 0 ≤ m → m ≤ length s
      → part_from s m at ≡ get_or s at 0
      ∷ (length (map rule_no (list_at s at)) ∷ (numbers (map rule_no (list_at s at)) ++ part_from s m (at + 2 + get_or s (at + 1) 0)))
  part-listed m h k =
      let n = get_or s (at + 1) 0 in
      let e : at + 2 + n - (at + 2) ≡ n = omega arith in
      part-two s m at (omega arith) k
      ∙ rw (list_length (omega arith), numbers-back (list_at s at), part-split s m (at + 2) (at + 2 + n) h (omega arith), e)

  pub list_read : (w : List RuleNo) {code : ℕ} {rest : List ℕ} → drop at s ≡ code ∷ (length w ∷ (numbers w ++ rest))
      → (get_or s at 0 ≡ code) × (get_or s (at + 1) 0 ≡ length w) × (list_at s at ≡ numbers w) × (drop (at + 2 + length w) s ≡ rest)
  list_read w {rest = rest} e =
      let (p, q, d) = read-two s at e in
      let n : length (numbers w) ≡ length w = length-map w (λ r. r.0) in
      (p, q, rw (q, d) (take_at (numbers w) rest (length w) n), rw n at (read_past s (at + 2) (numbers w) d))
