-- The format, written: the bytes of a book. Document 01, "The rule book". The code that writes books is src/making.rt; the laws say that
-- reading and writing are each other's way back.
--
--   Fits b           the book keeps the format's limits
--   record_bytes r    one record
--   bytes_of_book b    records, index and trailer
use Rattle.std.specs.Prelude.{◌≡◌, true, List, [], ◌∷◌, ◌++◌, map, ℕ, ◌+◌, ◌≤◌, ◌<◌, ◌%◌, ◌/◌, length}
use mathlib.Core.List.{Memᴰ}
use Rattle.meaning.specs.declared.AtomNo.{AtomNo}
use Rattle.meaning.specs.Sets.{ascending}
use Rattle.meaning.specs.Books.{Rule, Book, count}

abbrev pub atom_bytes : List AtomNo → List ℕ
atom_bytes l = map (λ a. a.0) l

-- "Each part strictly ascending. p and n at most 16." "Atoms are 0 to A-1"
pub record BodyFits (n : ℕ) (l : List AtomNo) : Type 0 where
  pub short : length l ≤ 16
  pub ascends : ascending (atom_bytes l) ≡ true
  pub below : (a : AtomNo) → Memᴰ a l → a.0 < n

pub record RuleFits (n : ℕ) (r : Rule) : Type 0 where
  pub head : r.head.0 < n
  pub pos : BodyFits n r.pos
  pub neg : BodyFits n r.neg

pub record Fits (b : Book) : Type 0 where
  pub atoms : b.atoms ≤ 255
  pub rules : count b ≤ 255
  pub each : (r : Rule) → Memᴰ r b.rules → RuleFits b.atoms r

unfoldable pub record_bytes : Rule → List ℕ
record_bytes r = r.head.0 ∷ (length r.pos ∷ (length r.neg ∷ (atom_bytes r.pos ++ atom_bytes r.neg)))

unfoldable pub records_bytes : List Rule → List ℕ
records_bytes [] = []
records_bytes (r ∷ l) = record_bytes r ++ records_bytes l

-- "for each rule the start of its record, two bytes"; the first starts at `at`
unfoldable pub index_bytes : ℕ → List Rule → List ℕ
index_bytes at [] = []
index_bytes at (r ∷ l) = at % 256 ∷ (at / 256 ∷ index_bytes (at + length (record_bytes r)) l)

unfoldable pub trailer_bytes : ℕ → ℕ → ℕ → List ℕ
trailer_bytes n k index = n ∷ (k ∷ (index % 256 ∷ (index / 256 ∷ (0x52 ∷ (0x42 ∷ [])))))

unfoldable pub bytes_of_book : Book → List ℕ
bytes_of_book b =
    records_bytes b.rules ++ (index_bytes 0 b.rules ++ trailer_bytes b.atoms (count b) (length (records_bytes b.rules)))
