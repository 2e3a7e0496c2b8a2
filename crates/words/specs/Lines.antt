-- Line and column of a place, for people. "Line and column from 1; a tab is one column." A count that would pass what a usize holds stays
-- there; no text of a program is so long.
--
--   one_more n            n + 1, up to 18,446,744,073,709,551,615
--   over f n l           the bytes of l one by one: n becomes f n x
--   line_in s place       one more than the lines that end before the place
--   column_in s place     one more than the bytes of its line before the place
use Rattle.std.specs.Prelude.{List, [], ◌∷◌, ℕ, ◌+◌, take}
use Rattle.meaning.specs.Choice.{if_lt, if_eq}

unfoldable pub one_more : ℕ → ℕ
one_more n = if_lt n 18446744073709551615 (n + 1) n

unfoldable pub over : (ℕ → ℕ → ℕ) → ℕ → List ℕ → ℕ
over f n [] = n
over f n (x ∷ l) = over f (f n x) l

unfoldable pub line_behind : ℕ → ℕ → ℕ
line_behind n x = if_eq x 10 (one_more n) n

unfoldable pub column_behind : ℕ → ℕ → ℕ
column_behind n x = if_eq x 10 1 (one_more n)

abbrev pub line_in : List ℕ → ℕ → ℕ
line_in s place = over line_behind 1 (take place s)

abbrev pub column_in : List ℕ → ℕ → ℕ
column_in s place = over column_behind 1 (take place s)
