-- The edges of the format, by computation: what each of these lists of bytes is read as. Document 01, "The rule book" and "Numbers given
-- back". That the longest book is read comes by the law of written books, and that one byte more is refused by the law of refusal 1.
use mathlib.Core.Path.{◌≡◌, refl}
use mathlib.Core.List.{List, [], ◌∷◌, ◌++◌, map, Memᴰ}
use Prim.Native.Nat.{ℕ, zero, suc, ◌<◌}
use native.Mathlib.Omega.{arith}
use lib.ListN.{length, replicate}
use lib.Dec.{ltb}
use borrow.Author.Tests.{ltb-true}
use Rattle.meaning.specs.declared.AtomNo.{AtomNo}
use Rattle.meaning.specs.Books.{atom_no, Rule, Book, count}
use Rattle.meaning.specs.Sets.{every, ascending}
use Rattle.meaning.specs.Choice.{ifb, if_lt, if_eq}
use Rattle.meaning.proofs.Sets.{every-at}
use Rattle.book.specs.Format.{u16_at, part_of, and_then, bytes_of, record_of, length_of, rule_of, records_of, rules_of, book_bytes}
use Rattle.book.specs.Format.{BookRead, good, bad, if_fine, body_of, read_of}
use Rattle.book.specs.Writing.{BodyFits, Fits, record_bytes, records_bytes, index_bytes, trailer_bytes, bytes_of_book}
use Rattle.book.proofs.Refusals.{refused-length}
use Rattle.book.proofs.ReadBack.{read-write}

pub too_long : (s : List ℕ) → book_bytes < length s → read_of s ≡ bad 1 0
too_long s h = (refused-length s 0).1 ((λ l. omega (arith, l.at_most)), refl)

abbrev sixteen : List ℕ
sixteen = 0 ∷ 1 ∷ 2 ∷ 3 ∷ 4 ∷ 5 ∷ 6 ∷ 7 ∷ 8 ∷ 9 ∷ 10 ∷ 11 ∷ 12 ∷ 13 ∷ 14 ∷ 15 ∷ []

abbrev fact : Rule
fact = record { head = atom_no 0; pos = []; neg = [] }

abbrev circle : Rule
circle = record { head = atom_no 0; pos = atom_no 0 ∷ []; neg = atom_no 0 ∷ [] }

abbrev full : Rule
full = record { head = atom_no 0; pos = map atom_no sixteen; neg = map atom_no sixteen }

-- the bytes, and what they are read as
abbrev pub edges : List (List ℕ × BookRead)
edges =
    -- no bytes, and five
    ([], bad 1 0)
    ∷ ((0 ∷ 0 ∷ 0 ∷ 0x52 ∷ 0x42 ∷ []), bad 1 0)
    -- no rule and no atom, the shortest book; another mark; an index start that is not where it has to be
    ∷ ((0 ∷ 0 ∷ 0 ∷ 0 ∷ 0x52 ∷ 0x42 ∷ []), good 0 0 0 [])
    ∷ ((0 ∷ 0 ∷ 0 ∷ 0 ∷ 0x52 ∷ 0x43 ∷ []), bad 2 4)
    ∷ ((0 ∷ 0 ∷ 1 ∷ 0 ∷ 0x52 ∷ 0x42 ∷ []), bad 3 2)
    -- no rule, and a gap before the index
    ∷ ((7 ∷ 0 ∷ 0 ∷ 1 ∷ 0 ∷ 0x52 ∷ 0x42 ∷ []), bad 4 1)
    -- one fact; the same with no atom
    ∷ ((0 ∷ 0 ∷ 0 ∷ 0 ∷ 0 ∷ 1 ∷ 1 ∷ 3 ∷ 0 ∷ 0x52 ∷ 0x42 ∷ []), good 1 1 3 (fact ∷ []))
    ∷ ((0 ∷ 0 ∷ 0 ∷ 0 ∷ 0 ∷ 0 ∷ 1 ∷ 3 ∷ 0 ∷ 0x52 ∷ 0x42 ∷ []), bad 6 0)
    -- its index entry one off; its end one off; its body past the index
    ∷ ((0 ∷ 0 ∷ 0 ∷ 1 ∷ 0 ∷ 1 ∷ 1 ∷ 3 ∷ 0 ∷ 0x52 ∷ 0x42 ∷ []), bad 4 3)
    ∷ ((0 ∷ 0 ∷ 0 ∷ 9 ∷ 0 ∷ 0 ∷ 1 ∷ 1 ∷ 4 ∷ 0 ∷ 0x52 ∷ 0x42 ∷ []), bad 4 4)
    ∷ ((0 ∷ 1 ∷ 0 ∷ 0 ∷ 0 ∷ 1 ∷ 1 ∷ 3 ∷ 0 ∷ 0x52 ∷ 0x42 ∷ []), bad 5 0)
    -- the same rule twice; the second entry one off
    ∷ ((0 ∷ 0 ∷ 0 ∷ 0 ∷ 0 ∷ 0 ∷ 0 ∷ 0 ∷ 3 ∷ 0 ∷ 1 ∷ 2 ∷ 6 ∷ 0 ∷ 0x52 ∷ 0x42 ∷ []), good 1 2 6 (fact ∷ fact ∷ []))
    ∷ ((0 ∷ 0 ∷ 0 ∷ 0 ∷ 0 ∷ 0 ∷ 0 ∷ 0 ∷ 4 ∷ 0 ∷ 1 ∷ 2 ∷ 6 ∷ 0 ∷ 0x52 ∷ 0x42 ∷ []), bad 4 8)
    -- the same atom in both parts; twice in one
    ∷ ((0 ∷ 1 ∷ 1 ∷ 0 ∷ 0 ∷ 0 ∷ 0 ∷ 1 ∷ 1 ∷ 5 ∷ 0 ∷ 0x52 ∷ 0x42 ∷ []), good 1 1 5 (circle ∷ []))
    ∷ ((0 ∷ 2 ∷ 0 ∷ 0 ∷ 0 ∷ 0 ∷ 0 ∷ 1 ∷ 1 ∷ 5 ∷ 0 ∷ 0x52 ∷ 0x42 ∷ []), bad 7 4)
    -- sixteen atoms in each part; seventeen positive atoms
    ∷ ((0 ∷ 16 ∷ 16 ∷ sixteen ++ sixteen) ++ (0 ∷ 0 ∷ 16 ∷ 1 ∷ 35 ∷ 0 ∷ 0x52 ∷ 0x42 ∷ []), good 16 1 35 (full ∷ []))
    ∷ ((0 ∷ 17 ∷ 0 ∷ sixteen) ++ (16 ∷ 0 ∷ 0 ∷ 17 ∷ 1 ∷ 20 ∷ 0 ∷ 0x52 ∷ 0x42 ∷ []), bad 5 0)
    ∷ []

pub edges-read : map (λ c. read_of c.0) edges ≡ map (λ c. c.1) edges
unfolding u16_at part_of and_then bytes_of record_of length_of rule_of records_of rules_of if_fine body_of read_of ifb if_lt if_eq
edges-read = refl

-- ---- the longest book: 255 rules with sixteen atoms in each part

abbrev pub longest : Book
longest = record { atoms = 16; rules = replicate 255 full }

sixteen-fit : BodyFits 16 (map atom_no sixteen)
unfolding ascending every
sixteen-fit = record {
  short = omega arith;
  ascends = refl;
  below = λ a m. ltb-true a.0 16 (every-at (λ (a : AtomNo). ltb a.0 16) (map atom_no sixteen) refl a m);
}

longest-fits : Fits longest
unfolding count
longest-fits = record {
  atoms = omega arith;
  rules = omega arith;
  each = λ r m. rw (repeated 255 m) (record { head = omega arith; pos = sixteen-fit; neg = sixteen-fit });
}
  where
    repeated : (n : ℕ) {r : Rule} → Memᴰ r (replicate n full) → r ≡ full
    repeated zero m = elim m [ ]
    repeated (suc n) (Memᴰ.head e) = e
    repeated (suc n) (Memᴰ.tail m) = repeated n m

pub longest-length : length (bytes_of_book longest) ≡ book_bytes
unfolding bytes_of_book records_bytes record_bytes index_bytes trailer_bytes
longest-length = refl

pub longest-read : read_of (bytes_of_book longest) ≡ good 16 255 8925 longest.rules
unfolding count records_bytes record_bytes
longest-read = read-write longest longest-fits
