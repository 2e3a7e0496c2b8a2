-- A good book's rules, written out again, are the same bytes: each record is the part that its rule was read from, each entry the two bytes
-- that were compared with its start, and the trailer is the last six. Document 01, "The rule book".
use mathlib.Core.Path.{◌≡◌, refl, ◌∙◌, ap}
use mathlib.Core.List.{List, [], ◌∷◌, ◌++◌, map}
use Prim.Native.Nat.{ℕ, zero, suc, ◌+◌, ◌*◌, ◌-◌, ◌≤◌, ◌%◌, ◌/◌}
use native.Mathlib.Nat.{sub-zero}
use native.Mathlib.Numerals.{add-one, add-two}
use native.Mathlib.Omega.{arith}
use lib.ListN.{length, get_or, take, drop, length-map, length-drop, take-append-drop, drop_of_length-le}
use lib.Seq.{take-add, drop-drop, drop-cons, length-take-le}
use Rattle.meaning.specs.Books.{atom_no, Rule, count}
use Rattle.book.specs.Format.{u16_at, fine, length_of, rule_of, part_from, records_of, rules_of, good, read_of, book_of, book_in}
use Rattle.book.specs.Rows.{Bytes, GoodAs}
use Rattle.book.specs.Writing.{record_bytes, records_bytes, index_bytes, trailer_bytes, bytes_of_book}
use Rattle.book.proofs.Slices.{part-after, positive-is, negative-is}
use Rattle.book.proofs.Parts.{RecordFine}
use Rattle.book.proofs.Refusals.{accepted}
use Rattle.book.proofs.Shapes.{records-first, records-last, record-ends, bytes-atoms}
use Rattle.book.proofs.Shapes.{good_length, good-inside, good-checked, good-count}

record-as : (x p q : ℕ) (l m : List ℕ) → length l ≡ p → length m ≡ q
    → record_bytes (record { head = atom_no x; pos = map atom_no l; neg = map atom_no m }) ≡ x ∷ (p ∷ (q ∷ (l ++ m)))
unfolding record_bytes
record-as x p q l m e f = rw (length-map l atom_no, length-map m atom_no, bytes-atoms l, bytes-atoms m, e, f)

record-written : (n : ℕ) (s : List ℕ) → RecordFine n s → record_bytes (rule_of s) ≡ take (length_of s) s
unfolding rule_of length_of
record-written n [] f = absurd (omega (arith, f.room))
record-written n (x ∷ []) f = absurd (omega (arith, f.room))
record-written n (x ∷ p ∷ []) f = absurd (omega (arith, f.room))
record-written n (x ∷ p ∷ q ∷ t) f =
    let s = x ∷ p ∷ q ∷ t in
    let e : 3 + p + q ≡ suc (suc (suc (p + q))) = omega arith in
    let h : p + q ≤ length t = omega (arith, f.ends) in
    let lp : length (take p t) ≡ p = length-take-le p t (omega arith) in
    let lq : length (take q (drop p t)) ≡ q = length-take-le q (drop p t) (omega (arith, length-drop p t)) in
    rw (positive-is s p, negative-is s p q, e, take-add p q t) (record-as x p q (take p t) (take q (drop p t)) lp lq)

record-size : (n : ℕ) (s : List ℕ) → RecordFine n s → length (record_bytes (rule_of s)) ≡ length_of s
record-size n s f = rw (record-written n s f) (length-take-le (length_of s) s f.ends)

module _ (s : List ℕ) (n index : ℕ) (inside : index ≤ length s) where
  records-written : (k r at : ℕ) → at ≤ index → records_of k s n index r at ≡ fine
      → records_bytes (rules_of k s index r) ≡ part_from s index at
  unfolding records_bytes rules_of
  records-written zero r at h e = let z : index - at ≡ 0 = omega (arith, records-last s n index r at e) in rw z
  records-written (suc k) r at h e =
      let f = records-first s n index r at k e in
      let part = part_from s index at in
      let rest = records-written k (r + 1) _ (record-ends s n index at h inside f.here) f.rest in
      rw (f.entry, record-written n part f.here, rest, ← part-after s index at (length_of part))
      (take-append-drop (length_of part) part)

drop-two : (s : List ℕ) (i : ℕ) → i + 2 ≤ length s → drop i s ≡ get_or s i 0 ∷ (get_or s (i + 1) 0 ∷ drop (i + 2) s)
drop-two s i h = rw (add-one, add-two) (drop-cons s i 0 (omega arith) ∙ ap (λ l. get_or s i 0 ∷ l) (drop-cons s (suc i) 0 (omega arith)))

-- the two bytes of a number that was read from two bytes
u16-bytes : (s : List ℕ) (i m : ℕ) → Bytes s → u16_at s i ≡ m → (m % 256 ≡ get_or s i 0) × (m / 256 ≡ get_or s (i + 1) 0)
unfolding u16_at
u16-bytes s i m b e = (omega (arith, b i), omega (arith, b i))

module _ (s : List ℕ) (n index : ℕ) (bytes : Bytes s) where
  index-written : (k r at : ℕ) → at ≤ index → index + 2 * (r + k) ≤ length s → records_of k s n index r at ≡ fine
      → index_bytes at (rules_of k s index r) ≡ take (2 * k) (drop (index + 2 * r) s)
  unfolding index_bytes rules_of
  index-written zero r at h l e = refl
  index-written (suc k) r at h l e =
      let f = records-first s n index r at k e in
      let part = part_from s index at in
      let ends = record-ends s n index at h (omega arith) f.here in
      let (low, high) = u16-bytes s (index + 2 * r) at bytes f.entry in
      let t : 2 * suc k ≡ suc (suc (2 * k)) = omega arith in
      let j : index + 2 * r + 2 ≡ index + 2 * (r + 1) = omega arith in
      let rest = index-written k (r + 1) (at + length_of part) ends (omega arith) f.rest in
      rw (t, drop-two s (index + 2 * r) (omega arith), j, f.entry, low, high, record-size n part f.here, rest)

-- the records fill the bytes before the index, in rule order
pub records-fill : {s : List ℕ} {n k index : ℕ} {l : List Rule} → GoodAs s n k index l → records_bytes l ≡ take index s
records-fill {s} {n} {k} {index} g =
    rw (g.each, sub-zero) at (records-written s n index (good-inside g) k 0 0 (omega arith) (good-checked g))

module _ (s : List ℕ) (n k index : ℕ) (l : List Rule) (bytes : Bytes s) (g : GoodAs s n k index l) where
  trailer-written : trailer_bytes n k index ≡ drop (index + 2 * k) s
  unfolding trailer_bytes
  trailer-written =
      let f = good_length g in
      let i = index + 2 * k in
      let z : drop (i + 2 + 2 + 2) s ≡ [] = drop_of_length-le s {i = i + 2 + 2 + 2} (omega arith) in
      let p₀ : length s - 6 ≡ i = omega arith in
      let p₁ : length s - 5 ≡ i + 1 = omega arith in
      let p₂ : length s - 4 ≡ i + 2 = omega arith in
      let p₄ : length s - 2 ≡ i + 2 + 2 = omega arith in
      let p₅ : length s - 1 ≡ i + 2 + 2 + 1 = omega arith in
      let (low, high) = u16-bytes s (i + 2) index bytes (rw p₂ at g.start) in
      rw (
        drop-two s i (omega arith),
        drop-two s (i + 2) (omega arith),
        drop-two s (i + 2 + 2) (omega arith),
        z,
        rw p₀ at g.atoms,
        rw p₁ at g.rules,
        low,
        high,
        rw p₄ at g.framed.mark.first,
        rw p₅ at g.framed.mark.second,
      )

  book-written : records_bytes l ++ (index_bytes 0 l ++ trailer_bytes n (length l) (length (records_bytes l))) ≡ s
  book-written =
      let f = good_length g in
      let z : index + 2 * 0 ≡ index = omega arith in
      let i = rw (g.each, z) at (index-written s n index bytes k 0 0 (omega arith) (omega arith) (good-checked g)) in
      rw (records-fill g, i, good-count g, length-take-le index s (omega arith), trailer-written, ← drop-drop (2 * k) index s)
      (ap (λ m. take index s ++ m) (take-append-drop (2 * k) (drop index s)) ∙ take-append-drop index s)

-- a good book's rules, written out again, are the same bytes
pub write_read : (s : List ℕ) (n k index : ℕ) (l : List Rule) → Bytes s → read_of s ≡ good n k index l → bytes_of_book (book_in s) ≡ s
unfolding bytes_of_book book_in book_of count
write_read s n k index l bytes e = rw e (book-written s n k index l bytes ((accepted s n k index l).0 e))
