-- The lines of a listing as text. Document 01, "Worked books": the program `readings` prints all answer sets.
--
--   number_text n               the number in decimal, with the fewest digits; a u64 has at most twenty
--   place_text asked a byte     a space and the place's number, where its byte in a row is the one that is asked for
--   places_text asked a row     these of each place of a row, from place a on
--   line_text n row end         the line of reading n: its number, a colon, its atoms, and the line end
--   HasRoom piece              a piece of 65,536 bytes with room for the longest line
--   longest_line                the bytes of the longest one: twenty digits, a colon, 255 atoms below 1,000, a line end
use Rattle.std.specs.Prelude.{◌≡◌, ◌≤◌, length, ℕ, zero, suc, ◌+◌, ◌*◌, ◌^◌, List, [], ◌∷◌, ◌++◌}
use Rattle.system.specs.Digits.{last_digits}
use Rattle.meaning.specs.Choice.{if_lt, if_eq}
use Rattle.talk.specs.Gathered.{Piece}

-- the fewest digits that hold n, from k to k + more
unfoldable pub places : ℕ → ℕ → ℕ → ℕ
places zero k n = k
places (suc more) k n = if_lt n (10 ^ k) k (places more (suc k) n)

unfoldable pub number_text : ℕ → List ℕ
number_text n = last_digits 10 (places 19 1 n) n

unfoldable pub place_text : ℕ → ℕ → ℕ → List ℕ
place_text asked a byte = if_eq byte asked (32 ∷ number_text a) []

unfoldable pub places_text : ℕ → ℕ → List ℕ → List ℕ
places_text asked a [] = []
places_text asked a (x ∷ row) = place_text asked a x ++ places_text asked (suc a) row

unfoldable pub line_text : ℕ → List ℕ → ℕ → List ℕ
line_text n row end = number_text n ++ (58 ∷ (places_text 1 0 row ++ (end ∷ [])))

abbrev pub longest_line : ℕ
longest_line = 20 + 1 + 255 * 4 + 1

abbrev pub HasRoom : Piece → Type 0
HasRoom piece = (length piece.bytes ≡ 65536) × (piece.held + longest_line ≤ length piece.bytes)
