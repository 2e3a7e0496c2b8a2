-- The worked books and papers of document 01, byte for byte. Document 01, "Worked books". And one book more, for the rule that 11 gives.
use Rattle.std.specs.Prelude.{List, [], ◌∷◌, ℕ}

-- "00 00 00 00 52 42"
abbrev pub empty : List ℕ
empty = 0 ∷ 0 ∷ 0 ∷ 0 ∷ 0x52 ∷ 0x42 ∷ []

-- "Fact 0: 00 00 00 | 00 00 | 01 01 03 00 52 42. Paper for 0: 41 00 45 | 00 | 00 01 03 00 50 46."
abbrev pub fact : List ℕ
fact = 0 ∷ 0 ∷ 0 ∷ 0 ∷ 0 ∷ 1 ∷ 1 ∷ 3 ∷ 0 ∷ 0x52 ∷ 0x42 ∷ []

abbrev pub fact_paper : List ℕ
fact_paper = 0x41 ∷ 0 ∷ 0x45 ∷ 0 ∷ 0 ∷ 1 ∷ 3 ∷ 0 ∷ 0x50 ∷ 0x46 ∷ []

-- "Same book, paper 45 | 00 | 00 01 01 00 50 46"
abbrev pub hasty_paper : List ℕ
hasty_paper = 0x45 ∷ 0 ∷ 0 ∷ 1 ∷ 1 ∷ 0 ∷ 0x50 ∷ 0x46 ∷ []

-- "0 if not 1; 1 if not 0": "00 00 01 01 01 00 01 00 00 00 04 00 02 02 08 00 52 42"
abbrev pub choice : List ℕ
choice = 0 ∷ 0 ∷ 1 ∷ 1 ∷ 1 ∷ 0 ∷ 1 ∷ 0 ∷ 0 ∷ 0 ∷ 4 ∷ 0 ∷ 2 ∷ 2 ∷ 8 ∷ 0 ∷ 0x52 ∷ 0x42 ∷ []

-- "0 if not 0"
abbrev pub contrary : List ℕ
contrary = 0 ∷ 0 ∷ 1 ∷ 0 ∷ 0 ∷ 0 ∷ 1 ∷ 1 ∷ 4 ∷ 0 ∷ 0x52 ∷ 0x42 ∷ []

-- "0 if 1; 1 if 0", and "The paper 41 00 45 | no witness | 00 00 03 00 50 46"
abbrev pub circular : List ℕ
circular = 0 ∷ 1 ∷ 0 ∷ 1 ∷ 1 ∷ 1 ∷ 0 ∷ 0 ∷ 0 ∷ 0 ∷ 4 ∷ 0 ∷ 2 ∷ 2 ∷ 8 ∷ 0 ∷ 0x52 ∷ 0x42 ∷ []

abbrev pub circular_paper : List ℕ
circular_paper = 0x41 ∷ 0 ∷ 0x45 ∷ 0 ∷ 0 ∷ 3 ∷ 0 ∷ 0x50 ∷ 0x46 ∷ []

-- "0; 1 if 0 and not 1"
abbrev pub undone : List ℕ
undone = 0 ∷ 0 ∷ 0 ∷ 1 ∷ 1 ∷ 1 ∷ 0 ∷ 1 ∷ 0 ∷ 0 ∷ 3 ∷ 0 ∷ 2 ∷ 2 ∷ 8 ∷ 0 ∷ 0x52 ∷ 0x42 ∷ []

-- "2 if 0; 2 if 1; 0 if not 1; 1 if not 0", and "Paper for 2: 53 00 45 53 01 45 53 02 41 00 45 41 03 41 01 45 | 02 00 | 02 02 10 00 50 46"
abbrev pub either_way : List ℕ
either_way =
    2 ∷ 1 ∷ 0 ∷ 0 ∷ 2 ∷ 1 ∷ 0 ∷ 1 ∷ 0 ∷ 0 ∷ 1 ∷ 1 ∷ 1 ∷ 0 ∷ 1 ∷ 0
    ∷ 0 ∷ 0 ∷ 4 ∷ 0 ∷ 8 ∷ 0 ∷ 12 ∷ 0 ∷ 3 ∷ 4 ∷ 16 ∷ 0 ∷ 0x52 ∷ 0x42 ∷ []

abbrev pub either_way_paper : List ℕ
either_way_paper =
    0x53 ∷ 0 ∷ 0x45 ∷ 0x53 ∷ 1 ∷ 0x45 ∷ 0x53 ∷ 2 ∷ 0x41 ∷ 0 ∷ 0x45 ∷ 0x41 ∷ 3 ∷ 0x41 ∷ 1 ∷ 0x45
    ∷ 2 ∷ 0 ∷ 2 ∷ 2 ∷ 0x10 ∷ 0 ∷ 0x50 ∷ 0x46 ∷ []

-- "Document 003's six-rule program, p b f f' m x numbered 0 to 5": 0; 1 if 0; 2 if 1 and not 3; 3 if 0 and not 2; 1 if 4;
-- 5 if 2 and 3 and not 5
abbrev pub six : List ℕ
six =
    0 ∷ 0 ∷ 0 ∷ 1 ∷ 1 ∷ 0 ∷ 0 ∷ 2 ∷ 1 ∷ 1 ∷ 1 ∷ 3 ∷ 3 ∷ 1 ∷ 1 ∷ 0 ∷ 2 ∷ 1 ∷ 1 ∷ 0 ∷ 4 ∷ 5 ∷ 2 ∷ 1 ∷ 2 ∷ 3 ∷ 5
    ∷ 0 ∷ 0 ∷ 3 ∷ 0 ∷ 7 ∷ 0 ∷ 12 ∷ 0 ∷ 17 ∷ 0 ∷ 21 ∷ 0 ∷ 6 ∷ 6 ∷ 27 ∷ 0 ∷ 0x52 ∷ 0x42 ∷ []

-- ---- papers that clear (document 02, request 2)

-- the paper that names 0 in "Fact 0" with 43, and with 44, in the place of 46
abbrev pub fact_as_clearing : List ℕ
fact_as_clearing = 0x41 ∷ 0 ∷ 0x45 ∷ 0 ∷ 0 ∷ 1 ∷ 3 ∷ 0 ∷ 0x50 ∷ 0x43 ∷ []

abbrev pub fact_unmarked : List ℕ
fact_unmarked = 0x41 ∷ 0 ∷ 0x45 ∷ 0 ∷ 0 ∷ 1 ∷ 3 ∷ 0 ∷ 0x50 ∷ 0x44 ∷ []

-- "0 if 1; 1 if 0": 55 02 00 01 45 | | 00 00 05 00 50 43; the same with 46; and 45 alone
abbrev pub circular_cleared : List ℕ
circular_cleared = 0x55 ∷ 2 ∷ 0 ∷ 1 ∷ 0x45 ∷ 0 ∷ 0 ∷ 5 ∷ 0 ∷ 0x50 ∷ 0x43 ∷ []

abbrev pub circular_as_naming : List ℕ
circular_as_naming = 0x55 ∷ 2 ∷ 0 ∷ 1 ∷ 0x45 ∷ 0 ∷ 0 ∷ 5 ∷ 0 ∷ 0x50 ∷ 0x46 ∷ []

abbrev pub hasty_cleared : List ℕ
hasty_cleared = 0x45 ∷ 0 ∷ 0 ∷ 1 ∷ 0 ∷ 0x50 ∷ 0x43 ∷ []

-- the six-rule program, atom 4, which has no rule: 45 | 00 01 02 | 04 03 01 00 50 43
abbrev pub six_cleared4 : List ℕ
six_cleared4 = 0x45 ∷ 0 ∷ 1 ∷ 2 ∷ 4 ∷ 3 ∷ 1 ∷ 0 ∷ 0x50 ∷ 0x43 ∷ []

-- and atom 5: 41 00 41 01 55 01 04 53 02 42 03 55 01 05 45 41 03 55 01 05 45 | 00 01 02 | 05 03 15 00 50 43
abbrev pub six_cleared5 : List ℕ
six_cleared5 =
    0x41 ∷ 0 ∷ 0x41 ∷ 1 ∷ 0x55 ∷ 1 ∷ 4 ∷ 0x53 ∷ 2 ∷ 0x42 ∷ 3 ∷ 0x55 ∷ 1 ∷ 5 ∷ 0x45 ∷ 0x41 ∷ 3 ∷ 0x55 ∷ 1 ∷ 5 ∷ 0x45
    ∷ 0 ∷ 1 ∷ 2 ∷ 5 ∷ 3 ∷ 0x15 ∷ 0 ∷ 0x50 ∷ 0x43 ∷ []

-- ---- which rule clashed (document 02, request 5)

-- "0 if 0; 0 if not 0": the last contradictory try finds rule 1 in both sets first, and at its end rule 0 too
abbrev pub late_clash : List ℕ
late_clash = 0 ∷ 1 ∷ 0 ∷ 0 ∷ 0 ∷ 0 ∷ 1 ∷ 0 ∷ 0 ∷ 0 ∷ 4 ∷ 0 ∷ 1 ∷ 2 ∷ 8 ∷ 0 ∷ 0x52 ∷ 0x42 ∷ []
