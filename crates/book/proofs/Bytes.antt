-- What the check of one record tells, in the table's words: 5 where the record does not fit, else the first byte that is wrong with 6 or 7,
-- else nothing. By recursion on the bytes of a part, all bytes before known to be good; and no two answers fit one record. Document 01,
-- "Numbers given back".
use mathlib.Core.Path.{◌≡◌, refl}
use mathlib.Core.List.{List}
use mathlib.Core.Logic.{⊎_elim}
use Prim.Native.Nat.{ℕ, zero, suc, ◌+◌, ◌-◌, ◌≤◌, ◌<◌}
use native.Mathlib.Nat.{add-zero, eq-or-lt_of_le, le_of_suc-le-suc}
use native.Mathlib.Numerals.{add-one}
use native.Mathlib.Omega.{arith}
use lib.ListN.{length, get_or, take, drop}
use lib.Seq.{drop-cons}
use Rattle.meaning.proofs.Choice.{lt-either}
use Rattle.book.specs.Format.{Check, fine, wrong, part_of, and_then, positive_bytes, negative_bytes}
use Rattle.book.specs.Format.{bytes_of, record_of, length_of, part_from}
use Rattle.book.specs.Rows.{pos_count, neg_count, record_end, RecordFits, IsAtom, head, body, Follows}
use Rattle.book.specs.Rows.{ByteWrong, atom, order, ByteGood, GoodBefore}
use Rattle.book.proofs.Slices.{part_length, part-byte, positive-at, negative-at}

-- the bytes before `to` are good, or one of them is the first that is wrong
pub data BytesRow (s : List ℕ) (n at to : ℕ) : Check → Type 0 where
  clean : GoodBefore s n at to → BytesRow s n at to fine
  dirty : {i number : ℕ} → i < to → GoodBefore s n at i → ByteWrong s n at i number → BytesRow s n at to (wrong number i)

-- what byte i has to be at least
data LeastAt (s : List ℕ) (at i : ℕ) : ℕ → Type 0 where
  any : ¬ Follows s at i → LeastAt s at i 0
  more : Follows s at i → LeastAt s at i (get_or s (i - 1) 0 + 1)

-- m bytes from i on, all of one part
record InPart (s : List ℕ) (at i m : ℕ) : Type 0 where
  from : at + 3 ≤ i
  to : i + m ≤ record_end s at
  inside : i + m ≤ length s
  one-part : (j : ℕ) → i < j → j < i + m → ¬ (j ≡ at + 3 + pos_count s at)

module _ (s : List ℕ) (n at : ℕ) where
  good-next : (i : ℕ) → GoodBefore s n at i → ByteGood s n at i → GoodBefore s n at (i + 1)
  good-next i before here j h =
      ⊎_elim (λ (e : j ≡ i). rw e here) (before j) (eq-or-lt_of_le (le_of_suc-le-suc (rw add-one at h)))

  -- a byte below n that is at least so much, and one that is not
  least-good : {i least : ℕ} → LeastAt s at i least → get_or s i 0 < n → least ≤ get_or s i 0 → ByteGood s n at i
  least-good (any f) b h = record { below = λ _. b; rises = λ g. absurd (f g) }
  least-good (more f) b h = record { below = λ _. b; rises = λ _. omega arith }

  least-wrong : {i least : ℕ} → LeastAt s at i least → get_or s i 0 < n → get_or s i 0 < least → ByteWrong s n at i 7
  least-wrong (any f) b h = absurd (omega arith)
  least-wrong (more f) b h = order f b (omega arith)

  part-rest : (i m : ℕ) → InPart s at i (suc m) → InPart s at (i + 1) m
  part-rest i m p = record {
    from = omega (arith, p.from);
    to = omega (arith, p.to);
    inside = omega (arith, p.inside);
    one-part = λ j h k. p.one-part j (omega arith) (omega arith);
  }

  least-next : (i m : ℕ) → InPart s at i (suc m) → 0 < m → LeastAt s at (i + 1) (get_or s i 0 + 1)
  least-next i m p z =
      let e : i + 1 - 1 ≡ i = omega arith in
      let f : Follows s at (i + 1) = record {
        after = omega (arith, p.from);
        inside = omega (arith, p.to);
        same-part = p.one-part (i + 1) (omega arith) (omega arith);
      } in
      rw e at (more f)

  part-row : (m i least : ℕ) → InPart s at i m → (0 < m → LeastAt s at i least) → GoodBefore s n at i
      → BytesRow s n at (i + m) (part_of n i least (take m (drop i s)))
  unfolding part_of
  part-row zero i least p l before = rw add-zero (clean before)
  part-row (suc m) i least p l before =
      let e : i + suc m ≡ i + 1 + m = omega arith in
      let h : i < length s = omega (arith, p.inside) in
      let least-here = l (omega arith) in
      let P : Check → Type 0 = BytesRow s n at (i + 1 + m) in
      rw (drop-cons s i 0 h, ← add-one i, e)
      (lt-either P _ _ _ _
      (λ b. lt-either P _ _ _ _ (λ k. dirty (omega arith) before (least-wrong least-here b k))
      (λ k. part-row m (i + 1) _ (part-rest i m p) (least-next i m p) (good-next i before (least-good least-here b k))))
      (λ b. dirty (omega arith) before (atom (body p.from (omega (arith, p.to))) b)))

-- one check after another
then-row : {s : List ℕ} {n at to end : ℕ} (c d : Check) → BytesRow s n at to c → to ≤ end → (GoodBefore s n at to → BytesRow s n at end d)
    → BytesRow s n at end (and_then c d)
unfolding and_then
then-row fine d (clean before) h f = f before
then-row (wrong number i) d (dirty k before w) h f = dirty {i = i} (omega arith) before w

module _ (s : List ℕ) (n index at : ℕ) (inside : index ≤ length s) (f : RecordFits s index at) where
  abbrev p : ℕ
  p = pos_count s at

  abbrev q : ℕ
  q = neg_count s at

  -- before the body only the head is an atom
  early-good : (i : ℕ) → i < at + 3 → (i ≡ at → get_or s at 0 < n) → ByteGood s n at i
  early-good i h b = record { below = below; rises = λ g. absurd (omega (arith, g.after)) }
    where
      below : IsAtom s at i → get_or s i 0 < n
      below (head e) = rw e (b e)
      below (body k _) = absurd (omega arith)

  positive-row : GoodBefore s n at (at + 3) → BytesRow s n at (at + 3 + p) (part_of n (at + 3) 0 (positive_bytes (part_from s index at) p))
  positive-row before =
      rw (positive-at s index at p (omega (arith, f.ends)))
      (part-row s n at p (at + 3) 0
      (record { from = omega arith; to = omega arith; inside = omega (arith, f.ends); one-part = λ j h k. omega arith })
      (λ _. any (λ g. omega (arith, g.after))) before)

  negative-row : GoodBefore s n at (at + 3 + p)
      → BytesRow s n at (at + 3 + p + q) (part_of n (at + 3 + p) 0 (negative_bytes (part_from s index at) p q))
  negative-row before =
      rw (negative-at s index at p q (omega (arith, f.ends)))
      (part-row s n at q (at + 3 + p) 0
      (record { from = omega arith; to = omega arith; inside = omega (arith, f.ends); one-part = λ j h k e. omega arith })
      (λ _. any (λ g. g.same-part refl)) before)

  bytes-row : BytesRow s n at (record_end s at) (bytes_of n at (part_from s index at) p q)
  unfolding bytes_of
  bytes-row =
      let e : at + (3 + p) ≡ at + 3 + p = omega arith in
      let end : record_end s at ≡ at + 3 + p + q = omega arith in
      let h : get_or (part_from s index at) 0 0 ≡ get_or s at 0 = rw add-zero at (part-byte s index at 0 (omega (arith, f.room))) in
      let P : Check → Type 0 = BytesRow s n at (at + 3 + p + q) in
      rw (h, e, end)
      (lt-either P _ _ _ _ (λ b. then-row _ _ (positive-row (λ i k. early-good i k (λ _. b))) (omega arith) negative-row)
      (λ b. dirty {i = at} (omega arith) (λ i k. early-good i (omega arith) (λ e. absurd (omega arith))) (atom (head refl) b)))

-- ---- the whole record

pub data RecordRow (s : List ℕ) (n index at : ℕ) : Check → Type 0 where
  misfits : ¬ RecordFits s index at → RecordRow s n index at (wrong 5 at)
  fits : {c : Check} → RecordFits s index at → BytesRow s n at (record_end s at) c → RecordRow s n index at c

pub record-row : (s : List ℕ) (n index at : ℕ) → at ≤ index → index ≤ length s
    → RecordRow s n index at (record_of n at (part_from s index at))
unfolding record_of
record-row s n index at h inside =
    let part = part_from s index at in
    let l : length part ≡ index - at = part_length s index at h inside in
    lt-either P _ _ _ _ (λ g. misfits (λ f. omega (arith, f.room))) λ room.
    let e₁ : get_or part 1 0 ≡ pos_count s at = part-byte s index at 1 (omega arith) in
    let e₂ : get_or part 2 0 ≡ neg_count s at = part-byte s index at 2 (omega arith) in
    lt-either P _ _ _ _ (λ g. misfits (λ f. omega (arith, f.few-pos))) λ few-pos.
    lt-either P _ _ _ _ (λ g. misfits (λ f. omega (arith, f.few-neg))) λ few-neg.
    lt-either P _ _ _ _ (λ g. misfits (λ f. omega (arith, f.ends))) λ ends.
    let f : RecordFits s index at = record { room = omega arith; few-pos = omega arith; few-neg = omega arith; ends = omega arith } in
    fits f (rw (e₁, e₂) (bytes-row s n index at inside f))
  where
    P : Check → Type 0
    P = RecordRow s n index at

-- ---- no two answers fit one record, since the first wrong byte is one

module _ {s : List ℕ} {n at : ℕ} where
  wrong-not-good : {i number : ℕ} → ByteWrong s n at i number → ¬ ByteGood s n at i
  wrong-not-good (atom a h) g = omega (arith, g.below a)
  wrong-not-good (order f b h) g = omega (arith, g.rises f)

  pub wrong-inside : {i number : ℕ} → ByteWrong s n at i number → i < record_end s at
  wrong-inside (atom (head e) _) = omega arith
  wrong-inside (atom (body _ k) _) = k
  wrong-inside (order f _ _) = f.inside

  number-one : {i a b : ℕ} → ByteWrong s n at i a → ByteWrong s n at i b → a ≡ b
  number-one (atom _ _) (atom _ _) = refl
  number-one (atom _ h) (order _ b _) = absurd (omega arith)
  number-one (order _ b _) (atom _ h) = absurd (omega arith)
  number-one (order _ _ _) (order _ _ _) = refl

  place-one : {i j a b : ℕ} → GoodBefore s n at i → ByteWrong s n at i a → GoodBefore s n at j → ByteWrong s n at j b → i ≡ j
  place-one {i} {j} g w h v =
      let not-before : ¬ (i < j) = λ l. wrong-not-good w (h i l) in
      let not_after : ¬ (j < i) = λ l. wrong-not-good v (g j l) in
      omega arith

  bytes_one : {to : ℕ} {c d : Check} → BytesRow s n at to c → BytesRow s n at to d → c ≡ d
  bytes_one (clean _) (clean _) = refl
  bytes_one (clean g) (dirty k _ w) = absurd (wrong-not-good w (g _ k))
  bytes_one (dirty k _ w) (clean g) = absurd (wrong-not-good w (g _ k))
  bytes_one (dirty _ g w) (dirty _ h v) = let e = place-one g w h v in let f = number-one (rw e at w) v in cc

  record-one : {index : ℕ} {c d : Check} → RecordRow s n index at c → RecordRow s n index at d → c ≡ d
  record-one (misfits _) (misfits _) = refl
  record-one (misfits m) (fits f _) = absurd (m f)
  record-one (fits f _) (misfits m) = absurd (m f)
  record-one (fits _ r) (fits _ q) = bytes_one r q

pub record-told : (s : List ℕ) (n index at : ℕ) {c : Check} → at ≤ index → index ≤ length s → RecordRow s n index at c
    → record_of n at (part_from s index at) ≡ c
record-told s n index at h inside = record-one (record-row s n index at h inside)

pub length_at : (s : List ℕ) (index at : ℕ) → at + 3 ≤ index → at + length_of (part_from s index at) ≡ record_end s at
unfolding length_of
length_at s index at h = rw (part-byte s index at 1 (omega arith), part-byte s index at 2 (omega arith))
