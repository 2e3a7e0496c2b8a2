-- The definitions of the format as the reader goes through them: one turn of each loop, its end, and what a check's answer makes of
-- the check that stands before it. Each is its definition unfolded once. Document 01, "The rule book" and "Numbers given back".
use mathlib.Core.Path.{◌≡◌, refl, sym, ap, ◌∙◌}
use mathlib.Core.Bool.{Bool, true, false}
use mathlib.Core.List.{List, [], ◌∷◌}
use Prim.Native.Nat.{ℕ, suc, ◌+◌, ◌*◌, ◌-◌, ◌<◌, ◌≤◌}
use native.Mathlib.Numerals.{add-one}
use native.Mathlib.Omega.{arith}
use lib.ListN.{length, get_or, drop, drop_of_length-le}
use lib.Seq.{drop-cons}
use lib.Dec.{eqb}
use Rattle.std.specs.Bool.{Decides}
use Rattle.std.specs.List.{ends_with}
use Rattle.std.proofs.lemmas.Bool.Decides.{Decides-eqb}
use Rattle.std.proofs.lemmas.Slice.Eq.{slice_eq-Decides}
use Rattle.meaning.specs.Choice.{if_lt, if_eq}
use Rattle.meaning.specs.Told.{refused_at}
use Rattle.meaning.proofs.Choice.{lt_yes, lt_no, eq_yes, eq-either}
use Rattle.meaning.proofs.Tests.{true-and-false}
use Rattle.book.specs.Numbers.{shape}
use Rattle.book.specs.Format.{u16_at, Check, fine, wrong, part_of, and_then, positive_bytes, negative_bytes, bytes_of, record_of, length_of, book_bytes}
use Rattle.book.specs.Format.{part_from, records_of, rules_of, BookRead, good, bad, if_fine, body_of, read_of, told_of}

module _ (s : List ℕ) (i n at least : ℕ) where
  pub part_end : length s ≤ i → part_of n at least (drop i s) ≡ fine
  unfolding part_of
  part_end h = rw (drop_of_length-le s h)

  pub part-turn : i < length s → part_of n at least (drop i s)
      ≡ if_lt (get_or s i 0) n (if_lt (get_or s i 0) least (wrong 7 at) (part_of n (at + 1) (get_or s i 0 + 1) (drop (i + 1) s))) (wrong 6 at)
  unfolding part_of
  part-turn h = rw (add-one i, drop-cons s i 0 h)

-- a record that has room before the index is decided by its bytes; p and q are its counts as the reader has them
module _ (n at : ℕ) (s : List ℕ) (p q : ℕ) (ep : p ≡ get_or s 1 0) (eq : q ≡ get_or s 2 0) where
  pub record-bytes : 3 ≤ length s → p ≤ 16 → q ≤ 16 → 3 + p + q ≤ length s → record_of n at s ≡ bytes_of n at s p q
  unfolding record_of
  record-bytes h hp hq l =
      rw (ep, eq) (lt_no _ _ _ _ h ∙ lt_no _ _ _ _ (omega arith) ∙ lt_no _ _ _ _ (omega arith) ∙ lt_no _ _ _ _ (omega arith))

module _ (n at : ℕ) (s : List ℕ) (p q : ℕ) where
  pub bytes-head : n ≤ get_or s 0 0 → bytes_of n at s p q ≡ wrong 6 at
  unfolding bytes_of
  bytes-head h = lt_no _ _ _ _ h

  pub bytes-parts : get_or s 0 0 < n → bytes_of n at s p q
      ≡ and_then (part_of n (at + 3) 0 (positive_bytes s p)) (part_of n (at + (3 + p)) 0 (negative_bytes s p q))
  unfolding bytes_of
  bytes-parts h = lt_yes _ _ _ _ h

module _ (s : List ℕ) (n index rules r at : ℕ) where
  pub records-end : rules ≤ r → records_of (rules - r) s n index r at ≡ if_eq at index fine (wrong 4 index)
  unfolding records_of
  records-end h = let e : rules - r ≡ 0 = omega arith in rw e

  pub records-turn : r < rules → records_of (rules - r) s n index r at
      ≡ if_eq (u16_at s (index + 2 * r)) at
      (and_then (record_of n at (part_from s index at))
      (records_of (rules - (r + 1)) s n index (r + 1) (at + length_of (part_from s index at))))
      (wrong 4 (index + 2 * r))
  unfolding records_of
  records-turn h = let e : rules - r ≡ suc (rules - (r + 1)) = omega arith in rw e

-- the check c was made, and found x
module _ (c d x : Check) (e : x ≡ c) where
  pub after-wrong : (i at : ℕ) → x ≡ wrong i at → and_then c d ≡ wrong i at
  unfolding and_then
  after-wrong i at f = rw (← e, f)

  pub after-fine : x ≡ fine → and_then c d ≡ d
  unfolding and_then
  after-fine f = rw (← e, f)

-- ---- the whole book, at the trailer's rule count k and index start as the reader has them

pub told-bad : (x : BookRead) (i at : ℕ) → x ≡ bad i at → refused_at i at ≡ told_of x
unfolding told_of
told-bad x i at e = rw e

-- the test of the mark is one of the last two bytes
module _ (s : List ℕ) (long : 6 ≤ length s) {r : Bool} (e : r ≡ ends_with eqb s (0x52 ∷ (0x42 ∷ []))) where
  last-two : drop (length s - 2) s ≡ get_or s (length s - 2) 0 ∷ (get_or s (length s - 1) 0 ∷ [])
  last-two =
      let m : suc (length s - 2) ≡ length s - 1 = omega arith in
      drop-cons s (length s - 2) 0 (omega arith)
      ∙ rw m (ap (λ (l : List ℕ). get_or s (length s - 2) 0 ∷ l)
      (drop-cons s (length s - 1) 0 (omega arith)
      ∙ ap (λ (l : List ℕ). get_or s (length s - 1) 0 ∷ l) (drop_of_length-le s {i = suc (length s - 1)} (omega arith))))

  ends : Decides r (0x52 ∷ (0x42 ∷ []) ≡ drop (length s - 2) s)
  ends = slice_eq-Decides Decides-eqb _ _ r e

  pub marked : r ≡ true → (get_or s (length s - 2) 0 ≡ 0x52) × (get_or s (length s - 1) 0 ≡ 0x42)
  marked t = let h = ends.0 t ∙ last-two in (cc, cc)

  pub unmarked : r ≡ false → {A : Type 0} (a b : A)
      → if_eq (get_or s (length s - 2) 0) 0x52 (if_eq (get_or s (length s - 1) 0) 0x42 a b) b ≡ b
  unmarked f a b =
      eq-either (λ x. x ≡ b) _ _ _ _
      (λ p. eq-either (λ x. x ≡ b) _ _ _ _
      (λ q. true-and-false (ends.1 (sym (last-two ∙ rw (p, q)))) f)
      (λ n. refl))
      (λ n. refl)

-- the length, the mark and the trailer are right
pub record FrameRead (s : List ℕ) (k index : ℕ) : Type 0 where
  pub count : k ≡ get_or s (length s - 5) 0
  pub start : index ≡ u16_at s (length s - 4)
  pub least : 6 ≤ length s
  pub most : length s ≤ book_bytes
  pub first : get_or s (length s - 2) 0 ≡ 0x52
  pub second : get_or s (length s - 1) 0 ≡ 0x42
  pub fills : index + 2 * k + 6 ≡ length s

-- and the records were found x
module _ {s : List ℕ} {k index : ℕ} (f : FrameRead s k index) (x : Check)
    (e : x ≡ records_of k s (get_or s (length s - 6) 0) index 0 0) where
  found : read_of s ≡ if_fine x (good (get_or s (length s - 6) 0) k index (rules_of k s index 0))
  unfolding read_of body_of
  found =
      rw (e, f.count, f.start)
      (lt_no _ _ _ _ f.least ∙ lt_no _ _ _ _ f.most ∙ eq_yes _ _ _ _ f.first ∙ eq_yes _ _ _ _ f.second
      ∙ eq_yes _ _ _ _ (rw (← f.count, ← f.start) f.fills))

  pub read-wrong : (i at : ℕ) → x ≡ wrong i at → refused_at i at ≡ told_of (read_of s)
  unfolding if_fine
  read-wrong i at q = told-bad _ i at (found ∙ rw q)

  pub read-fine : x ≡ fine → shape (get_or s (length s - 6) 0) (get_or s (length s - 5) 0) index ≡ told_of (read_of s)
  unfolding if_fine told_of
  read-fine q = rw (found, q, f.count)
