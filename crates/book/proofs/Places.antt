-- The rules of a book that was read as good, for whoever reads them in place: how many there are, where the record of each stands and
-- that it lies before the index, and that every atom is below the atom count. Taken from the shape of a good book.
-- Document 01, "The rule book". A caller goes by these laws and never unfolds the format.
use mathlib.Core.Path.{◌≡◌, refl, sym, ap}
use mathlib.Core.List.{List, [], ◌∷◌, Memᴰ}
use Prim.Native.Nat.{ℕ, zero, suc, ◌+◌, ◌*◌, ◌-◌, ◌≤◌, ◌<◌}
use native.Mathlib.Nat.{add-zero, not-suc-le-zero, le_of_suc-le-suc}
use native.Mathlib.Omega.{arith}
use lib.ListN.{length, get_or, take, drop}
use Rattle.meaning.specs.declared.AtomNo.{AtomNo}
use Rattle.meaning.specs.declared.RuleNo.{RuleNo}
use Rattle.meaning.specs.Books.{atom_no, count, rule, InBook}
use Rattle.book.specs.declared.reader.Shape.{Shape}
use Rattle.book.specs.Format.{u16_at, rule_of, part_from, read_of, book_of, book_in, ReadAs}
use Rattle.book.specs.Rows.{record_end, RecordGood, GoodAs}
use Rattle.book.specs.Places.{RuleAt}
use Rattle.book.specs.Writing.{atom_bytes, RuleFits}
use Rattle.book.specs.Tables.{Below}
use Rattle.book.proofs.Shapes.{bytes-atoms, told-good, good_book, good_length, good-inside, good-count, good-record, good-rule}
use Rattle.book.proofs.Shapes.{good-rules-fit}
use Rattle.book.proofs.Bodies.{bytes_below}
use Rattle.book.proofs.Slices.{part-byte, positive-at, negative-at}

-- ---- one record

-- what a record that ends before the index holds, by its bytes in the whole book
record-holds : (s : List ℕ) (index at : ℕ) → index ≤ length s → record_end s at ≤ index → RuleAt s at (rule_of (part_from s index at))
unfolding rule_of
record-holds s index at l f =
    let p : get_or (part_from s index at) 1 0 ≡ get_or s (at + 1) 0 = part-byte s index at 1 (omega arith) in
    let q : get_or (part_from s index at) 2 0 ≡ get_or s (at + 2) 0 = part-byte s index at 2 (omega arith) in
    record {
      within = omega arith;
      head = ap atom_no (rw add-zero at (part-byte s index at 0 (omega arith)));
      pos = rw (bytes-atoms, p) (positive-at s index at (get_or s (at + 1) 0) (omega arith));
      neg = rw (bytes-atoms, p, q) (negative-at s index at (get_or s (at + 1) 0) (get_or s (at + 2) 0) (omega arith));
    }

-- a part of n bytes, as the code takes it out of the book
pub part-taken : (s : List ℕ) (first n m : ℕ) (l : List ℕ) → n ≡ m → l ≡ take m (drop first s)
    → take (first + n - first) (drop first s) ≡ l
part-taken s first n m l e q = let f : first + n - first ≡ m = omega arith in rw f (sym q)

-- ---- the whole book

member : {A : Type 0} (l : List A) (i : ℕ) (d : A) → i < length l → Memᴰ (get_or l i d) l
member [] i d h = absurd (not-suc-le-zero h)
member (x ∷ l) zero d h = Memᴰ.head refl
member (x ∷ l) (suc i) d h = Memᴰ.tail (member l i d (le_of_suc-le-suc h))

module _ (s : List ℕ) (h : Shape) (e : ReadAs s h) where
  pub shape-good : GoodAs s h.atoms h.rules h.index (book_in s).rules
  shape-good = good_book s _ _ _ e

  pub shape-length : h.index + 2 * h.rules + 6 ≡ length s
  shape-length = sym (good_length shape-good)

  pub shape-atoms : (book_in s).atoms ≡ h.atoms
  unfolding book_in book_of
  shape-atoms = ap (λ x. (book_of x).atoms) (told-good (read_of s) _ _ _ e)

  pub shape-count : count (book_in s) ≡ h.rules
  unfolding count
  shape-count = good-count shape-good

  module _ (r : RuleNo) where
    pub in-shape : InBook (book_in s) r → r.0 < h.rules
    in-shape l = rw shape-count at l

    module _ (l : r.0 < h.rules) where
      pub shape-in : InBook (book_in s) r
      shape-in = rw shape-count l

      pub rule-record : RecordGood s h.atoms h.index (u16_at s (h.index + 2 * r.0))
      rule-record = good-record shape-good r.0 l

      pub rule-at : (at : ℕ) → at ≡ u16_at s (h.index + 2 * r.0) → RuleAt s at (rule (book_in s) r)
      unfolding rule
      rule-at at q =
          rw (good-rule shape-good r.0 _ l, q) (record-holds s h.index _ (good-inside shape-good) rule-record.fits.ends)

      pub rule-keeps : RuleFits h.atoms (rule (book_in s) r)
      unfolding rule count
      rule-keeps = good-rules-fit shape-good _ (member (book_in s).rules r.0 _ shape-in)

      pub head-below : (a : AtomNo) → a ≡ (rule (book_in s) r).head → a.0 < h.atoms
      head-below a q = rw q rule-keeps.head

      pub head_small : h.atoms < 256 → (a : AtomNo) → a ≡ (rule (book_in s) r).head → a.0 < 255
      head_small n a q = omega (arith, head-below a q)

      -- a part of the book that holds a body's atoms, in a book whose atom count is a byte
      module _ (n : h.atoms < 256) (part : List ℕ) where
        pub pos-below : part ≡ atom_bytes (rule (book_in s) r).pos → Below 255 part
        pos-below q = rw q (bytes_below 255 (rule (book_in s) r).pos (λ a m. omega (arith, rule-keeps.pos.below a m)))

        pub neg-below : part ≡ atom_bytes (rule (book_in s) r).neg → Below 255 part
        neg-below q = rw q (bytes_below 255 (rule (book_in s) r).neg (λ a m. omega (arith, rule-keeps.neg.below a m)))
