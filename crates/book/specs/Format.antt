-- The format of a rule book: for every list of bytes the refusal with its place, or the shape and the rules. Document 01, "The rule
-- book" and "Numbers given back". This is the only definition of the format, and it computes.
--
--   book_bytes        the length that no book passes
--   u16_at s at       "Numbers of two bytes are little-endian."
--   part_of n at least l    one part of a body, whose first byte stands at `at`: byte by byte, 6 before 7
--   record_of n at s  "head, count p of positive atoms, count n of negative atoms, the positive atoms, the negative atoms", in a part
--                    of the book that starts at `at` and ends at the index
--   records_of k s n index r at   k records more, from rule r on, whose record is to start at `at`
--   read_of s         the whole book
--   told_of, book_in   what is told of it; the book as its meaning is defined
use Rattle.std.specs.Prelude.{◌≡◌, List, [], ◌∷◌, map, ℕ, zero, suc, ◌+◌, ◌*◌, ◌-◌, length, get_or, take, drop}
use Rattle.meaning.specs.Books.{atom_no, Rule, Book}
use Rattle.meaning.specs.Choice.{if_lt, if_eq}
use Rattle.meaning.specs.Told.{Told, success, refused_at}
use Rattle.book.specs.Numbers.{shape}
use Rattle.book.specs.declared.reader.Shape.{Shape}

-- a book of 255 rules with 16 atoms in each part: 255 records of 35 bytes, two bytes of index for each, and the trailer
abbrev pub book_bytes : ℕ
book_bytes = 9441

unfoldable pub u16_at : List ℕ → ℕ → ℕ
u16_at s at = get_or s at 0 + 256 * get_or s (at + 1) 0

-- a check of some bytes: nothing wrong, or the number and place of what is
pub data Check : Type 0 where
  fine : Check
  wrong : ℕ → ℕ → Check

-- each byte an atom below n (6) and at least `least`, which is one more than the byte before (7)
unfoldable pub part_of : ℕ → ℕ → ℕ → List ℕ → Check
part_of n at least [] = fine
part_of n at least (x ∷ l) = if_lt x n (if_lt x least (wrong 7 at) (part_of n (at + 1) (x + 1) l)) (wrong 6 at)

unfoldable pub and_then : Check → Check → Check
and_then fine c = c
and_then (wrong i at) c = wrong i at

-- the positive atoms and the negative atoms of a record with p of the first and q of the second
abbrev pub positive_bytes : List ℕ → ℕ → List ℕ
positive_bytes s p = take (3 + p - 3) (drop 3 s)

abbrev pub negative_bytes : List ℕ → ℕ → ℕ → List ℕ
negative_bytes s p q = take (3 + p + q - (3 + p)) (drop (3 + p) s)

-- the head and the body of a record that lies before the index
unfoldable pub bytes_of : ℕ → ℕ → List ℕ → ℕ → ℕ → Check
bytes_of n at s p q =
    if_lt (get_or s 0 0) n (and_then (part_of n (at + 3) 0 (positive_bytes s p)) (part_of n (at + (3 + p)) 0 (negative_bytes s p q))) (wrong 6 at)

unfoldable pub record_of : ℕ → ℕ → List ℕ → Check
record_of n at s =
    if_lt (length s) 3 (wrong 5 at)
    (if_lt 16 (get_or s 1 0) (wrong 5 at)
    (if_lt 16 (get_or s 2 0) (wrong 5 at)
    (if_lt (length s) (3 + get_or s 1 0 + get_or s 2 0) (wrong 5 at)
    (bytes_of n at s (get_or s 1 0) (get_or s 2 0)))))

-- a record's length, and the rule it holds
unfoldable pub length_of : List ℕ → ℕ
length_of s = 3 + get_or s 1 0 + get_or s 2 0

unfoldable pub rule_of : List ℕ → Rule
rule_of s = record {
  head = atom_no (get_or s 0 0);
  pos = map atom_no (positive_bytes s (get_or s 1 0));
  neg = map atom_no (negative_bytes s (get_or s 1 0) (get_or s 2 0));
}

-- the part of the book from `at` to the index
abbrev pub part_from : List ℕ → ℕ → ℕ → List ℕ
part_from s index at = take (index - at) (drop at s)

unfoldable pub records_of : ℕ → List ℕ → ℕ → ℕ → ℕ → ℕ → Check
records_of zero s n index r at = if_eq at index fine (wrong 4 index)
records_of (suc k) s n index r at =
    if_eq (u16_at s (index + 2 * r)) at
    (and_then (record_of n at (part_from s index at)) (records_of k s n index (r + 1) (at + length_of (part_from s index at))))
    (wrong 4 (index + 2 * r))

-- the rules of k records, each where its index entry says
unfoldable pub rules_of : ℕ → List ℕ → ℕ → ℕ → List Rule
rules_of zero s index r = []
rules_of (suc k) s index r = rule_of (part_from s index (u16_at s (index + 2 * r))) ∷ rules_of k s index (r + 1)

-- what reading a book finds: its atom count, rule count, start of the index and rules; or a refusal's number and place
pub data BookRead : Type 0 where
  good : ℕ → ℕ → ℕ → List Rule → BookRead
  bad : ℕ → ℕ → BookRead

-- r where the check found nothing wrong
unfoldable pub if_fine : Check → BookRead → BookRead
if_fine fine r = r
if_fine (wrong i at) r = bad i at

-- a book of the trailer's atom count n, rule count k and index start
unfoldable pub body_of : List ℕ → ℕ → ℕ → ℕ → BookRead
body_of s n k index =
    if_eq (index + 2 * k + 6) (length s) (if_fine (records_of k s n index 0 0) (good n k index (rules_of k s index 0))) (bad 3 (length s - 4))

unfoldable pub read_of : List ℕ → BookRead
read_of s =
    if_lt (length s) 6 (bad 1 0)
    (if_lt book_bytes (length s) (bad 1 0)
    (if_eq (get_or s (length s - 2) 0) 0x52
    (if_eq (get_or s (length s - 1) 0) 0x42
    (body_of s (get_or s (length s - 6) 0) (get_or s (length s - 5) 0) (u16_at s (length s - 4)))
    (bad 2 (length s - 2)))
    (bad 2 (length s - 2))))

unfoldable pub told_of : BookRead → Told Shape
told_of (good n k index l) = shape n k index
told_of (bad i at) = refused_at i at

unfoldable pub book_of : BookRead → Book
book_of (good n k index l) = record { atoms = n; rules = l }
book_of (bad i at) = record { atoms = 0; rules = [] }

unfoldable pub book_in : List ℕ → Book
book_in s = book_of (read_of s)

-- the bytes were read as a good book of this shape: what a reader of rules asks of its caller
abbrev pub ReadAs : List ℕ → Shape → Type 0
ReadAs s h = told_of (read_of s) ≡ success h
