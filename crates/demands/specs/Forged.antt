-- Two papers that make a slip of document 01, "Slips to rule out", and are right in everything else.
use Rattle.std.specs.Prelude.{List, [], ◌∷◌, ℕ}

-- "The second branch of a split starting from what the first had added": for the book "0 if not 1; 1 if not 0", a paper that names 0. It
-- splits on rule 0; the first branch has it on, the second has nothing on and ends as if it had: 53 00 45 45 | 00 | 00 01 04 00 50 46
abbrev pub carried_paper : List ℕ
carried_paper = 0x53 ∷ 0 ∷ 0x45 ∷ 0x45 ∷ 0 ∷ 0 ∷ 1 ∷ 4 ∷ 0 ∷ 0x50 ∷ 0x46 ∷ []

-- "Listing a rule under 55 because its negative atoms block it": for the book "0; 1 if not 0", 41 00 55 01 01 45 | 00 | 00 01 06 00 50 46
abbrev pub barred_book : List ℕ
barred_book = 0 ∷ 0 ∷ 0 ∷ 1 ∷ 0 ∷ 1 ∷ 0 ∷ 0 ∷ 0 ∷ 3 ∷ 0 ∷ 2 ∷ 2 ∷ 7 ∷ 0 ∷ 0x52 ∷ 0x42 ∷ []

abbrev pub barred_paper : List ℕ
barred_paper = 0x41 ∷ 0 ∷ 0x55 ∷ 1 ∷ 1 ∷ 0x45 ∷ 0 ∷ 0 ∷ 1 ∷ 6 ∷ 0 ∷ 0x50 ∷ 0x46 ∷ []

-- the same with 42, as it should be: 41 00 42 01 45 | 00 | 00 01 05 00 50 46
abbrev pub blocked_paper : List ℕ
blocked_paper = 0x41 ∷ 0 ∷ 0x42 ∷ 1 ∷ 0x45 ∷ 0 ∷ 0 ∷ 1 ∷ 5 ∷ 0 ∷ 0x50 ∷ 0x46 ∷ []
