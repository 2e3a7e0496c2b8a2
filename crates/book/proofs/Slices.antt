-- A part of the book and the book: where a part's bytes stand, how long it is, and what is left of it further on. The laws of `take` and
-- `drop` at the places that the format uses.
use mathlib.Core.Path.{◌≡◌, sym, ◌∙◌}
use mathlib.Core.List.{List, [], ◌∷◌}
use Prim.Native.Nat.{ℕ, zero, suc, ◌+◌, ◌-◌, ◌≤◌, ◌<◌}
use native.Mathlib.Nat.{sub-zero, zero-sub, suc-sub-suc}
use native.Mathlib.Omega.{arith}
use lib.ListN.{length, get_or, take, drop, length-take, length-drop}
use lib.Seq.{drop-drop, take-take, take-nil, get_or-take, get_or-drop}
use Rattle.book.specs.Format.{positive_bytes, negative_bytes, part_from}

drop-take : (m n : ℕ) (l : List ℕ) → drop m (take n l) ≡ take (n - m) (drop m l)
drop-take zero n l = rw sub-zero
drop-take (suc m) zero l = rw zero-sub
drop-take (suc m) (suc n) [] = sym (take-nil (suc n - suc m))
drop-take (suc m) (suc n) (x ∷ l) = rw suc-sub-suc (drop-take m n l)

module _ (s : List ℕ) (index at : ℕ) where
  pub part_length : at ≤ index → index ≤ length s → length (part_from s index at) ≡ index - at
  part_length h g = simp (length-take, length-drop) (omega arith)

  pub part-byte : (i : ℕ) → at + i < index → get_or (part_from s index at) i 0 ≡ get_or s (at + i) 0
  part-byte i h = let k : i < index - at = omega arith in rw (get_or-take, get_or-drop)

  -- the part from m bytes on
  pub part-after : (m : ℕ) → drop m (part_from s index at) ≡ part_from s index (at + m)
  part-after m = let e : index - at - m ≡ index - (at + m) = omega arith in rw (drop-take m (index - at), drop-drop m at, e)

-- the atoms of a record, with the sums of their places done
pub positive-is : (s : List ℕ) (p : ℕ) → positive_bytes s p ≡ take p (drop 3 s)
positive-is s p = let e : 3 + p - 3 ≡ p = omega arith in rw e

pub negative-is : (s : List ℕ) (p q : ℕ) → negative_bytes s p q ≡ take q (drop p (drop 3 s))
negative-is s p q = let e : 3 + p + q - (3 + p) ≡ q = omega arith in rw (e, drop-drop p 3 s)

-- ... and in the whole book
module _ (s : List ℕ) (index at p : ℕ) where
  pub positive-at : at + 3 + p ≤ index → positive_bytes (part_from s index at) p ≡ take p (drop (at + 3) s)
  positive-at h =
      positive-is (part_from s index at) p ∙ rw (part-after s index at 3) (take-take p (index - (at + 3)) (drop (at + 3) s) (omega arith))

  pub negative-at : (q : ℕ) → at + 3 + p + q ≤ index → negative_bytes (part_from s index at) p q ≡ take q (drop (at + 3 + p) s)
  negative-at q h =
      negative-is (part_from s index at) p q
      ∙ rw (part-after s index at 3, part-after s index (at + 3) p)
      (take-take q (index - (at + 3 + p)) (drop (at + 3 + p) s) (omega arith))
