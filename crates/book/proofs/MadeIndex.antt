-- The index of a book made rule by rule (specs/Making): its entries are written one by one, each from the bytes of the record before it; and
-- with the trailer behind it the draft's front is the whole book.
use mathlib.Core.Path.{◌≡◌, refl, sym, ◌∙◌, ap}
use mathlib.Core.List.{List, [], ◌∷◌, ◌++◌}
use Prim.Native.Nat.{ℕ, suc, ◌+◌, ◌*◌, ◌≤◌, ◌<◌, ◌%◌, ◌/◌}
use native.Mathlib.Nat.{zero-add, add-zero}
use native.Mathlib.Numerals.{add-one}
use native.Mathlib.Omega.{arith}
use lib.ListN.{length, get_or, take, drop, length-append, length-map}
use lib.Seq.{take-length, length-take-le, take-suc, split_at, get_or-take, get_or-append-add}
use Rattle.meaning.specs.Books.{atom_no, Rule, count}
use Rattle.book.specs.Format.{book_bytes}
use Rattle.book.specs.declared.making.Making.{Making}
use Rattle.book.specs.Writing.{record_bytes, records_bytes, index_bytes, trailer_bytes, bytes_of_book}
use Rattle.book.specs.Making.{Puts, Finished}
use Rattle.book.proofs.ReadBack.{index-length}
use Rattle.book.proofs.Puts.{puts-nil, puts_then, puts-byte}
use Rattle.book.proofs.Made.{records-append, records-last, Whole, whole-size}

-- ---- the index

index-last : (at : ℕ) (l : List Rule) (r : Rule)
    → index_bytes at (l ++ (r ∷ []))
    ≡ index_bytes at l ++ ((at + length (records_bytes l)) % 256 ∷ ((at + length (records_bytes l)) / 256 ∷ []))
unfolding index_bytes records_bytes
index-last at [] r = rw add-zero
index-last at (q ∷ l) r =
    let e : at + length (record_bytes q) + length (records_bytes l) ≡ at + length (record_bytes q ++ records_bytes l) =
    simp length-append (omega arith) in
    ap (λ (t : List ℕ). at % 256 ∷ (at / 256 ∷ t)) (rw e at (index-last (at + length (record_bytes q)) l r))

-- a rule that is not asked for
abbrev none : Rule
none = record { head = atom_no 0; pos = []; neg = [] }

module _ (l : List Rule) (k : ℕ) (h : k < length l) where
  abbrev here : Rule
  here = get_or l k none

  taken : take (k + 1) l ≡ take k l ++ (here ∷ [])
  taken = rw add-one (take-suc l k none h)

  abbrev behind : List ℕ
  behind = record_bytes here ++ records_bytes (drop (suc k) l)

  parted : records_bytes l ≡ records_bytes (take k l) ++ behind
  unfolding records_bytes
  parted = ap records_bytes (split_at l k none h) ∙ records-append (take k l) (here ∷ drop (suc k) l)

  byte_at : (i : ℕ) → get_or (records_bytes l) (length (records_bytes (take k l)) + i) 0 ≡ get_or behind i 0
  byte_at i = ap (λ (t : List ℕ). get_or t (length (records_bytes (take k l)) + i) 0) parted ∙ get_or-append-add (records_bytes (take k l)) behind i 0

-- the entries of the first k rules are written
pub record Indexed (l : List Rule) (m : Making) (before : List ℕ) (k start at : ℕ) (after : List ℕ) : Type 0 where
  pub few : k ≤ length l
  pub from : start ≡ length (records_bytes (take k l))
  pub put : Puts (index_bytes 0 (take k l)) m.length before at after

pub indexed-none : (l : List Rule) (m : Making) (d : List ℕ) → Indexed l m d 0 0 m.length d
unfolding records_bytes index_bytes
indexed-none l m d = record { few = omega arith; from = refl; put = puts-nil m.length d }

module _ {l : List Rule} {m : Making} {before : List ℕ} {k start at : ℕ} {after : List ℕ} (w : Whole l m before)
    (x : Indexed l m before k start at after) where
  pub indexed-at : at ≡ m.length + 2 * k
  indexed-at = omega (arith, x.put.ends, index-length 0 (take k l), length-take-le k l x.few)

  pub indexed-inside : k < length l → start + 3 ≤ m.length
  unfolding record_bytes
  indexed-inside h = omega (
    arith,
    x.from,
    w.size,
    ap length (parted l k h),
    length-append (records_bytes (take k l)) (behind l k h),
    length-append (record_bytes (here l k h)) (records_bytes (drop (suc k) l)),
  )

  -- a byte of a record, whatever was written behind the records
  module _ (h : k < length l) {n : ℕ} {c d : List ℕ} (v : Puts c m.length before n d) where
    record-byte : (i : ℕ) → i < 3 → get_or d (start + i) 0 ≡ get_or (behind l k h) i 0
    record-byte i g =
        puts-byte v w.long (omega (arith, whole-size w, w.rules, w.small.rules)) (omega (arith, indexed-inside h))
        ∙ sym (get_or-take m.length before (start + i) 0 (omega (arith, indexed-inside h)))
        ∙ rw (w.bytes, x.from) (byte_at l k h i)

    next_start : start + (3 + get_or d (start + 1) 0 + get_or d (start + 2) 0) ≡ length (records_bytes (take (k + 1) l))
    unfolding record_bytes
    next_start =
        rw (record-byte 1 (omega arith), record-byte 2 (omega arith), taken l k h, records-last, length-append)
        (simp (length-append, length-map) (omega (arith, x.from)))

  pub indexed-room : k < length l → at + 2 ≤ book_bytes
  indexed-room h = omega (arith, indexed-at, whole-size w, w.rules, w.small.rules)

  pub indexed-more : k < length l → {at' start' n : ℕ} {b : List ℕ} → Puts (start % 256 ∷ (start / 256 ∷ [])) at after at' b
      → n ≡ 3 + get_or b (start + 1) 0 + get_or b (start + 2) 0 → start' ≡ start + n → Indexed l m before (k + 1) start' at' b
  indexed-more h {at'} {b = b} two f g = record { few = omega arith; from = rw (g, f) (next_start h put); put = put }
    where
      put : Puts (index_bytes 0 (take (k + 1) l)) m.length before at' b
      put = rw (taken l k h, index-last, zero-add, ← x.from) (puts_then x.put two)

  pub indexed-all : k ≡ length l → Puts (index_bytes 0 l) m.length before at after
  indexed-all e = let t : take k l ≡ l = rw e (take-length l) in rw (ap (index_bytes 0) t) at x.put

-- ---- the whole book

pub index-ends : {l : List Rule} {m : Making} {before after : List ℕ} {n : ℕ} → Whole l m before
    → Puts (index_bytes 0 l) m.length before n after → n ≡ m.length + 2 * m.rules
index-ends {l} w v = omega (arith, v.ends, index-length 0 l, w.rules)

pub finished : {l : List Rule} {m : Making} {before mid after : List ℕ} {at n : ℕ} → Whole l m before → (atoms : ℕ)
    → Puts (index_bytes 0 l) m.length before at mid → Puts (trailer_bytes atoms m.rules m.length) at mid n after
    → Finished (record { atoms = atoms; rules = l }) n after
unfolding bytes_of_book count
finished {l} {m} {before} {after = after} {n = n} w atoms v u =
    let all : Puts (index_bytes 0 l ++ trailer_bytes atoms (length l) (length (records_bytes l))) m.length before n after =
    rw (← w.rules, ← w.size) (puts_then v u) in
    record {
      long = all.long ∙ w.long;
      size = simp length-append (omega (arith, all.ends, w.size, length-append (index_bytes 0 l) (trailer_bytes atoms (length l) (length (records_bytes l)))));
      bytes = all.bytes w.long ∙ rw w.bytes;
    }
