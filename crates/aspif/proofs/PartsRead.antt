-- One part of a rule's body, written and then read, and read and then written. Reading takes as many literals as there are: what follows them
-- is none.
--
--   Climbs least l   each atom's number there is greater than the one before it, the first at least `least`
--   PartWithin most l   every number of the part is at most `most`
use mathlib.Core.Path.{◌≡◌, refl, ◌∙◌, ap}
use mathlib.Core.List.{List, [], ◌∷◌, ◌++◌, append_assoc, append-nil, Memᴰ}
use Prim.Native.Nat.{ℕ, zero, suc, ◌+◌, ◌-◌, ◌<◌, ◌≤◌}
use native.Mathlib.Omega.{arith}
use lib.Dec.{ltb}
use lib.ListN.{length, length-append}
use Rattle.meaning.specs.declared.AtomNo.{AtomNo}
use Rattle.meaning.specs.Books.{atom_no}
use Rattle.meaning.specs.Sets.{ascending}
use Rattle.meaning.proofs.Tests.{both, and_left, and_right}
use borrow.Author.Tests.{lt-ltb, ltb-true}
use mathlib.Core.Bool.{true}
use Rattle.book.specs.Writing.{atom_bytes}
use Rattle.decimal.specs.Fewest.{decimal}
use Rattle.aspif.specs.Text.{part_bytes}
use Rattle.aspif.specs.Reading.{Got, got, outside, on_got, digit_count, item_in, part_in}
use Rattle.aspif.proofs.Pieces.{on-got, on-outside, item-there, item_back}

pub data Climbs : ℕ → List AtomNo → Type 0 where
  none : {least : ℕ} → Climbs least []
  more : {least : ℕ} {a : AtomNo} {l : List AtomNo} → least ≤ a.0 + 1 → Climbs (a.0 + 1 + 1) l → Climbs least (a ∷ l)

-- every number of the part is at most `most`
pub record PartWithin (most : ℕ) (l : List AtomNo) : Type 0 where
  pub each : (a : AtomNo) → Memᴰ a l → a.0 + 1 ≤ most

-- ---- a part

-- a sign is no digit: a number that a part follows ends there
pub record Sign (sign : List ℕ) : Type 0 where
  pub ends : (l : List ℕ) → digit_count (sign ++ l) ≡ 0

pub part-ends : (sign : List ℕ) → Sign sign → (l : List AtomNo) (r : List ℕ) → digit_count r ≡ 0 → digit_count (part_bytes sign l ++ r) ≡ 0
unfolding part_bytes
part-ends sign s [] r e = e
part-ends sign s (a ∷ l) r e = rw append_assoc (s.ends _)

module _ (most : ℕ) (sign : List ℕ) (s : Sign sign) (r : List ℕ) (stops : (least : ℕ) → item_in most sign least r ≡ outside)
    (ends : digit_count r ≡ 0) where
  pub part-there : (f : ℕ) (l acc : List AtomNo) (least : ℕ) → length l < f → Climbs least l → PartWithin most l
      → part_in f most sign acc least (part_bytes sign l ++ r) ≡ got (acc ++ l) r
  unfolding part_in part_bytes
  part-there zero l acc least h c w = absurd (omega arith)
  part-there (suc f) [] acc least h c w = on-outside _ _ (stops least) ∙ rw append-nil
  part-there (suc f) (a ∷ l) acc least h (more g c) w =
      let e : a.0 + 1 - 1 ≡ a.0 = omega arith in
      rw (append_assoc, append_assoc)
      (on-got _ _ (item-there most sign least (a.0 + 1) (part_bytes sign l ++ r) g (w.each a (Memᴰ.head refl)) (part-ends sign s l r ends))
      ∙ rw e (part-there f l (acc ++ (a ∷ [])) (a.0 + 1 + 1) (omega arith) c (record { each = λ b m. w.each b (Memᴰ.tail m) })
      ∙ rw append_assoc))

-- a text is longer than the literals in it are many
pub part-long : (x : ℕ) (m : List ℕ) (l : List AtomNo) → length l ≤ length (part_bytes (x ∷ m) l)
unfolding part_bytes
part-long x m [] = omega arith
part-long x m (a ∷ l) = simp length-append (omega (arith, part-long x m l))

pub part-short : (x : ℕ) (m : List ℕ) (l : List AtomNo) (r : List ℕ) → length l < suc (length (part_bytes (x ∷ m) l ++ r))
part-short x m l r = simp length-append (omega (arith, part-long x m l))

-- what was read behind acc
pub record PartRead (sign : List ℕ) (acc : List AtomNo) (least : ℕ) (l : List ℕ) (x : List AtomNo) (r : List ℕ) : Type 0 where
  pub part : List AtomNo
  pub whole : x ≡ acc ++ part
  pub climbs : Climbs least part
  pub bytes : l ≡ part_bytes sign part ++ r

module _ (most : ℕ) (sign : List ℕ) where
  pub part-back : (f : ℕ) (acc : List AtomNo) (least : ℕ) (l : List ℕ) (x : List AtomNo) (r : List ℕ) → 0 < least
      → part_in f most sign acc least l ≡ got x r → PartRead sign acc least l x r
  unfolding on_got part_in part_bytes
  part-back zero acc least l x r p e = record { part = []; whole = cc (append-nil acc); climbs = none; bytes = cc }
  part-back (suc f) acc least l x r p e =
      by-item (λ a n k. part-back f a n k x r) (item_in most sign least l) refl e
    where
      by-item : ((a : List AtomNo) (n : ℕ) (k : List ℕ) → 0 < n → part_in f most sign a n k ≡ got x r → PartRead sign a n k x r)
          → (z : Got ℕ) → item_in most sign least l ≡ z
          → on_got z (got acc l) (λ v r. part_in f most sign (acc ++ (atom_no (v - 1) ∷ [])) (v + 1) r) ≡ got x r → PartRead sign acc least l x r
      by-item below outside i e = record { part = []; whole = cc (append-nil acc); climbs = none; bytes = cc }
      by-item below (got v k) i e =
          let (b, h) = item_back most sign least l k v i in
          let t = below (acc ++ (atom_no (v - 1) ∷ [])) (v + 1) k (omega arith) e in
          let g : v - 1 + 1 ≡ v = omega arith in
          record {
            part = atom_no (v - 1) ∷ t.part;
            whole = t.whole ∙ append_assoc acc (atom_no (v - 1) ∷ []) t.part;
            climbs = more {least = least} {a = atom_no (v - 1)} {l = t.part} (rw g h) (rw g t.climbs);
            bytes = b ∙ rw (append_assoc, append_assoc, g) (ap (λ j. sign ++ (decimal v ++ j)) t.bytes);
          }

-- ---- parts ascend

-- the first of a climbing list is at least so much
pub climbs-rise : {least : ℕ} {l : List AtomNo} → Climbs least l → ascending (atom_bytes l) ≡ true
unfolding ascending
climbs-rise none = refl
climbs-rise (more h none) = refl
climbs-rise (more {a = a} h (more {a = b} g c)) = both (lt-ltb a.0 b.0 (omega arith)) (climbs-rise (more {a = b} g c))

pub part-rises : (most : ℕ) (sign : List ℕ) (f : ℕ) (l : List ℕ) (x : List AtomNo) (r : List ℕ) → part_in f most sign [] 1 l ≡ got x r
    → ascending (atom_bytes x) ≡ true
part-rises most sign f l x r e = let b = part-back most sign f [] 1 l x r (omega arith) e in rw b.whole (climbs-rise b.climbs)

rises-on : (a : AtomNo) (l : List AtomNo) → ascending (a.0 ∷ atom_bytes l) ≡ true → Climbs (a.0 + 1 + 1) l
unfolding ascending
rises-on a [] e = none
rises-on a (b ∷ l) e = more {least = a.0 + 1 + 1} {a = b} (omega (arith, ltb-true a.0 b.0 (and_left (ltb a.0 b.0) _ e))) (rises-on b l (and_right (ltb a.0 b.0) _ e))

pub rises-climb : (l : List AtomNo) → ascending (atom_bytes l) ≡ true → Climbs 1 l
rises-climb [] e = none
rises-climb (a ∷ l) e = more {least = 1} {a = a} (omega arith) (rises-on a l e)
