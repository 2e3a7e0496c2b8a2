-- Two books that keep the format's limits, joined (document 02, request 9): within 255 atoms and rules together the joined book keeps them too, so its
-- bytes are read as good and give it back, and they are six fewer than those of both books: one trailer for two. An atom numbered on takes
-- the bytes that it took, and keeps its order.
use mathlib.Core.Path.{◌≡◌, refl, sym, ◌∙◌, ap}
use mathlib.Core.Logic.{⊎_elim}
use mathlib.Core.Bool.{true}
use mathlib.Core.List.Memᴰ
use mathlib.Core.List.{List, [], ◌∷◌, map}
use Prim.Native.Nat.{ℕ, ◌+◌, ◌-◌, ◌≤◌}
use native.Mathlib.Omega.{arith}
use lib.Dec.{ltb}
use lib.ListN.{length, length-append, length-map}
use borrow.Author.Tests.{lt-ltb, le-ltb}
use Rattle.meaning.specs.declared.AtomNo.{AtomNo}
use Rattle.meaning.specs.Sets.{every, ascending}
use Rattle.meaning.specs.Books.{Rule, Book, count}
use Rattle.meaning.specs.Joined.{up_atom, up_rule, joined, below, own_rule, Own}
use Rattle.meaning.proofs.Tests.{both, lt-or-le}
use Rattle.meaning.proofs.Sets.{every-all}
use Rattle.meaning.proofs.Joined.{joined-count}
use Rattle.meaning.proofs.Cases.{choice}
use Rattle.meaning.proofs.JoinedCases.{fact}
use Rattle.book.specs.declared.reader.Shape.{Shape}
use Rattle.book.specs.Format.{good, read_of, book_of, book_in, ReadAs}
use Rattle.book.specs.Writing.{atom_bytes, BodyFits, RuleFits, Fits}
use Rattle.book.specs.Writing.{record_bytes, records_bytes, index_bytes, trailer_bytes, bytes_of_book}
use Rattle.book.proofs.Shapes.{good-rules-fit}
use Rattle.book.proofs.ReadBack.{book-length, read-write}
use Rattle.book.proofs.Places.{shape-good, shape-atoms, shape-count}
use Rattle.book.proofs.Made.{records-append}

-- ---- a book that fits names atoms of its own only

body_own : (n : ℕ) (l : List AtomNo) → BodyFits n l → every (below n) l ≡ true
unfolding below
body_own n l f = every-all (below n) l (λ a m. lt-ltb _ _ (f.below a m))

rule-own : (n : ℕ) (r : Rule) → RuleFits n r → own_rule n r ≡ true
unfolding own_rule below
rule-own n r f = both (lt-ltb _ _ f.head) (both (body_own n _ f.pos) (body_own n _ f.neg))

pub fits-own : (b : Book) → Fits b → Own b
fits-own b f = every-all (own_rule b.atoms) _ (λ r m. rule-own _ r (f.each r m))

-- ---- a rule that fits, among more atoms and numbered on

body_more : (n m : ℕ) (l : List AtomNo) → BodyFits n l → BodyFits (n + m) l
body_more n m l f = record { short = f.short; ascends = f.ascends; below = λ a k. omega (arith, f.below a k) }

rule-more : (n m : ℕ) (r : Rule) → RuleFits n r → RuleFits (n + m) r
rule-more n m r f = record { head = omega (arith, f.head); pos = body_more n m _ f.pos; neg = body_more n m _ f.neg }

ltb-up : (n i j : ℕ) → ltb (n + i) (n + j) ≡ ltb i j
ltb-up n i j = ⊎_elim
    (λ h. lt-ltb (n + i) (n + j) (omega arith) ∙ sym (lt-ltb i j h))
    (λ h. le-ltb (n + i) (n + j) (omega arith) ∙ sym (le-ltb i j h))
    (lt-or-le i j)

pub up-ascends : (n : ℕ) (l : List AtomNo) → ascending (atom_bytes (map (up_atom n) l)) ≡ ascending (atom_bytes l)
unfolding ascending
up-ascends n [] = refl
up-ascends n (a ∷ []) = refl
up-ascends n (a ∷ (c ∷ l)) = rw (ltb-up n a.0 c.0, up-ascends n (c ∷ l))

body_up : (n m : ℕ) (l : List AtomNo) → BodyFits m l → BodyFits (n + m) (map (up_atom n) l)
body_up n m l f = record {
  short = rw (length-map l (up_atom n)) f.short;
  ascends = up-ascends n l ∙ f.ascends;
  below = λ a k. let (d, j, e) = Memᴰ.of_map (up_atom n) l k in rw (← e) (omega (arith, f.below d j));
}

rule-up : (n m : ℕ) (r : Rule) → RuleFits m r → RuleFits (n + m) (up_rule n r)
unfolding up_rule
rule-up n m r f = record { head = omega (arith, f.head); pos = body_up n m _ f.pos; neg = body_up n m _ f.neg }

-- ---- the bytes of rules numbered on

record-up : (n : ℕ) (r : Rule) → length (record_bytes (up_rule n r)) ≡ length (record_bytes r)
unfolding record_bytes up_rule
record-up n r = simp (length-append, length-map)

records-up : (n : ℕ) (l : List Rule) → length (records_bytes (map (up_rule n) l)) ≡ length (records_bytes l)
unfolding records_bytes
records-up n [] = refl
records-up n (r ∷ l) = simp (length-append, record-up n r, records-up n l)

module _ (b c : Book) (f : Fits b) (g : Fits c) (few-atoms : b.atoms + c.atoms ≤ 255) (few-rules : count b + count c ≤ 255) where
  -- 17 is given just for what this asks
  pub joined-fits : Fits (joined b c)
  unfolding joined
  joined-fits = record {
    atoms = few-atoms;
    rules = rw (joined-count b c) few-rules;
    each = λ q m. ⊎_elim
        (λ k. rule-more _ _ q (f.each q k))
        (λ k. let (r, j, e) = Memᴰ.of_map (up_rule b.atoms) c.rules k in rw (← e) (rule-up _ _ r (g.each r j)))
        (Memᴰ.append_cases b.rules m);
  }

  joined-records : length (records_bytes (joined b c).rules) ≡ length (records_bytes b.rules) + length (records_bytes c.rules)
  unfolding joined
  joined-records = simp (records-append, length-append, records-up)

  -- 19 is given below this length
  pub joined_length : length (bytes_of_book (joined b c)) ≡ length (bytes_of_book b) + length (bytes_of_book c) - 6
  joined_length =
      omega (arith, book-length (joined b c) joined-fits, book-length b f, book-length c g, joined-records, joined-count b c)

  -- what is written is read as good and gives the joined book
  pub joined-good : read_of (bytes_of_book (joined b c))
      ≡ good (b.atoms + c.atoms) (count b + count c) (length (records_bytes b.rules) + length (records_bytes c.rules))
      (joined b c).rules
  unfolding joined
  joined-good = rw (← joined-count b c, ← joined-records) (read-write (joined b c) joined-fits)

  pub joined-read : book_in (bytes_of_book (joined b c)) ≡ joined b c
  unfolding book_in book_of
  joined-read = ap book_of (read-write (joined b c) joined-fits)

-- over 255 atoms or rules together there is no such book
pub joined-fits-only : (b c : Book) → Fits (joined b c) → (b.atoms + c.atoms ≤ 255) × (count b + count c ≤ 255)
unfolding joined
joined-fits-only b c f = (f.atoms, rw (joined-count b c) at f.rules)

-- ---- bytes that were read as good, for whoever has their shape

-- a shape's counts are bytes
pub shape-keeps : (s : List ℕ) (h : Shape) → ReadAs s h → h.atoms ≤ 255 → h.rules ≤ 255 → Fits (book_in s)
shape-keeps s h e few-atoms few-rules = record {
  atoms = rw (shape-atoms s h e) few-atoms;
  rules = rw (shape-count s h e) few-rules;
  each = λ q m. rw (shape-atoms s h e) (good-rules-fit (shape-good s h e) q m);
}

-- ---- worked bytes

pub worked-bytes : (bytes_of_book (joined fact choice)
    ≡ 0 ∷ 0 ∷ 0 ∷ 1 ∷ 0 ∷ 1 ∷ 2 ∷ 2 ∷ 0 ∷ 1 ∷ 1 ∷ 0 ∷ 0 ∷ 3 ∷ 0 ∷ 7 ∷ 0 ∷ 3 ∷ 3 ∷ 11 ∷ 0 ∷ 0x52 ∷ 0x42 ∷ [])
    × (bytes_of_book (joined choice fact)
    ≡ 0 ∷ 0 ∷ 1 ∷ 1 ∷ 1 ∷ 0 ∷ 1 ∷ 0 ∷ 2 ∷ 0 ∷ 0 ∷ 0 ∷ 0 ∷ 4 ∷ 0 ∷ 8 ∷ 0 ∷ 3 ∷ 3 ∷ 11 ∷ 0 ∷ 0x52 ∷ 0x42 ∷ [])
unfolding joined up_rule count record_bytes records_bytes index_bytes trailer_bytes bytes_of_book
worked-bytes = (refl, refl)
