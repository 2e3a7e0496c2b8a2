-- What is written of a book that fits is bytes, each below 256: atoms are below 255, counts at most 16, and every place in a book is below
-- 65,536. So the law of ReadBack speaks of books that can be lent as bytes. Document 01, "The rule book".
use mathlib.Core.Path.{refl}
use mathlib.Core.List.{List, [], ◌∷◌, ◌++◌, Memᴰ}
use Prim.Native.Nat.{ℕ, zero, suc, ◌+◌, ◌≤◌, ◌<◌, ◌%◌, ◌/◌}
use native.Mathlib.Omega.{arith}
use lib.ListN.{length, length-append}
use Rattle.meaning.specs.declared.AtomNo.{AtomNo}
use Rattle.meaning.specs.Books.{Rule, Book, count}
use Rattle.book.specs.Rows.{Bytes}
use Rattle.book.specs.Writing.{atom_bytes, RuleFits, Fits, record_bytes, records_bytes, index_bytes, trailer_bytes, bytes_of_book}
use Rattle.book.proofs.ReadBack.{records-short}

-- a list of bytes
data Small : List ℕ → Type 0 where
  none : Small []
  more : {x : ℕ} {l : List ℕ} → x < 256 → Small l → Small (x ∷ l)

small_at : {l : List ℕ} → Small l → Bytes l
small_at none i = omega arith
small_at (more h b) zero = h
small_at (more h b) (suc i) = small_at b i

both : {l m : List ℕ} → Small l → Small m → Small (l ++ m)
both none c = c
both (more h b) c = more h (both b c)

atoms-written : (l : List AtomNo) → ((a : AtomNo) → Memᴰ a l → a.0 < 256) → Small (atom_bytes l)
atoms-written [] f = none
atoms-written (a ∷ l) f = more (f a (Memᴰ.head refl)) (atoms-written l (λ c m. f c (Memᴰ.tail m)))

record-written : (n : ℕ) (q : Rule) → n ≤ 255 → RuleFits n q → Small (record_bytes q)
unfolding record_bytes
record-written n q h f =
    let pos = f.pos.short in
    let neg = f.neg.short in
    more {x = q.head.0} (omega (arith, f.head)) (more {x = length q.pos} (omega arith) (more {x = length q.neg} (omega arith)
    (both (atoms-written q.pos (λ a m. omega (arith, f.pos.below a m)))
    (atoms-written q.neg (λ a m. omega (arith, f.neg.below a m))))))

records-written : (n : ℕ) (l : List Rule) → n ≤ 255 → ((q : Rule) → Memᴰ q l → RuleFits n q) → Small (records_bytes l)
unfolding records_bytes
records-written n [] h f = none
records-written n (q ∷ l) h f =
    both (record-written n q h (f q (Memᴰ.head refl))) (records-written n l h (λ p m. f p (Memᴰ.tail m)))

-- a number below 65,536 has two bytes
number-written : (m : ℕ) {l : List ℕ} → m < 65536 → Small l → Small (m % 256 ∷ (m / 256 ∷ l))
number-written m h b = more {x = m % 256} (omega arith) (more {x = m / 256} (omega arith) b)

index-written : (at : ℕ) (l : List Rule) → at + length (records_bytes l) < 65536 → Small (index_bytes at l)
unfolding records_bytes index_bytes
index-written at [] h = none
index-written at (q ∷ l) h =
    let e = length-append (record_bytes q) (records_bytes l) in
    number-written at (omega arith) (index-written (at + length (record_bytes q)) l (omega arith))

trailer-written : (n k index : ℕ) → n ≤ 255 → k ≤ 255 → index < 65536 → Small (trailer_bytes n k index)
unfolding trailer_bytes
trailer-written n k index h g i =
    let mark = more {x = 0x52} (omega arith) (more {x = 0x42} (omega arith) none) in
    more {x = n} (omega arith) (more {x = k} (omega arith) (number-written index i mark))

pub written-bytes : (b : Book) → Fits b → Bytes (bytes_of_book b)
unfolding bytes_of_book count
written-bytes b f =
    let short = records-short b.rules (λ q m. ((f.each q m).pos.short, (f.each q m).neg.short)) in
    let few = f.rules in
    small_at (both (records-written b.atoms b.rules f.atoms f.each)
    (both (index-written 0 b.rules (omega arith)) (trailer-written b.atoms (count b) _ f.atoms f.rules (omega arith))))
