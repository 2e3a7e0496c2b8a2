-- Our book as a text for other solvers. Document 02, request 12: "the line `asp 1 0 0`, one rule line of statement type 1 for each rule with a
-- disjunctive head of one atom and a normal body, one output line of type 4 for each atom n, ascending, with the name x and n and that atom
-- as only condition, and the closing 0. Single spaces; lines end in 0A. Our atom n is their n + 1; negative literals carry a minus; positive
-- ones come first."
--
--   part_bytes sign l the literals of one part of a body, each behind its sign
--   rule_line r       one rule: `1 0 1 H 0 C` and C literals
--   output_line n     one atom: `4 W xn 1 n+1`, where W is the length of the name xn
--   text_of b         the whole text
--   Loose b          a book with the limits of size left out: atoms are below the atom count, parts ascend
--   Formed s b       the text s is the one of the book b
use Rattle.std.specs.Prelude.{◌≡◌, true, ℕ, zero, suc, ◌+◌, ◌<◌, length}
use mathlib.Core.List.{List, [], ◌∷◌, ◌++◌, Memᴰ}
use Rattle.meaning.specs.declared.AtomNo.{AtomNo}
use Rattle.meaning.specs.Sets.{ascending}
use Rattle.meaning.specs.Books.{Rule, Book}
use Rattle.book.specs.Writing.{atom_bytes}
use Rattle.decimal.specs.Fewest.{decimal}

-- ---- what stands between the numbers

-- `asp 1 0 0` and the line end
abbrev pub header : List ℕ
header = 97 ∷ 115 ∷ 112 ∷ 32 ∷ 49 ∷ 32 ∷ 48 ∷ 32 ∷ 48 ∷ 10 ∷ []

-- `1 0 1 `: a rule, its head a disjunction, of one atom
abbrev pub opening : List ℕ
opening = 49 ∷ 32 ∷ 48 ∷ 32 ∷ 49 ∷ 32 ∷ []

-- ` 0 `: a normal body
abbrev pub normal : List ℕ
normal = 32 ∷ 48 ∷ 32 ∷ []

-- ` ` and ` -`
abbrev pub plus : List ℕ
plus = 32 ∷ []

abbrev pub minus : List ℕ
minus = 32 ∷ 45 ∷ []

abbrev pub line_end : List ℕ
line_end = 10 ∷ []

-- `4 `, ` x` and ` 1 `: an output, its name, one condition
abbrev pub output : List ℕ
output = 52 ∷ 32 ∷ []

abbrev pub name : List ℕ
name = 32 ∷ 120 ∷ []

abbrev pub condition : List ℕ
condition = 32 ∷ 49 ∷ 32 ∷ []

-- `0` and the line end
abbrev pub last : List ℕ
last = 48 ∷ 10 ∷ []

-- ---- the lines

unfoldable pub part_bytes : List ℕ → List AtomNo → List ℕ
part_bytes sign [] = []
part_bytes sign (a ∷ l) = sign ++ (decimal (a.0 + 1) ++ part_bytes sign l)

-- the literals of a body and the line end
unfoldable pub body_bytes : Rule → List ℕ
body_bytes r = part_bytes plus r.pos ++ (part_bytes minus r.neg ++ line_end)

unfoldable pub rule_line : Rule → List ℕ
rule_line r = opening ++ (decimal (r.head.0 + 1) ++ (normal ++ (decimal (length r.pos + length r.neg) ++ body_bytes r)))

unfoldable pub rule_lines : List Rule → List ℕ
rule_lines [] = []
rule_lines (r ∷ l) = rule_line r ++ rule_lines l

unfoldable pub output_line : ℕ → List ℕ
output_line n =
    output ++ (decimal (1 + length (decimal n)) ++ (name ++ (decimal n ++ (condition ++ (decimal (n + 1) ++ line_end)))))

-- n lines, the first for atom k
unfoldable pub output_lines : ℕ → ℕ → List ℕ
output_lines k zero = []
output_lines k (suc n) = output_line k ++ output_lines (suc k) n

unfoldable pub text_of : Book → List ℕ
text_of b = header ++ (rule_lines b.rules ++ (output_lines 0 b.atoms ++ last))

-- ---- the texts so formed, "limits of size apart"

pub record PartLoose (n : ℕ) (l : List AtomNo) : Type 0 where
  pub ascends : ascending (atom_bytes l) ≡ true
  pub below : (a : AtomNo) → Memᴰ a l → a.0 < n

pub record RuleLoose (n : ℕ) (r : Rule) : Type 0 where
  pub head : r.head.0 < n
  pub pos : PartLoose n r.pos
  pub neg : PartLoose n r.neg

abbrev pub Loose : Book → Type 0
Loose b = (r : Rule) → Memᴰ r b.rules → RuleLoose b.atoms r

pub record Formed (s : List ℕ) (b : Book) : Type 0 where
  pub loose : Loose b
  pub text : s ≡ text_of b
