-- The names of a text's atoms: which atom has a number in the book, and the names that the symbol table gives it. A wrong name beside a number
-- would name the wrong person.
--
--   whose_in all l n      the first of the atoms l whose number, among all, is n
--   whose_of atoms n      the first of the atoms whose number is n
--   nth_in l a k          the k-th name, counted from 0, that the entries l give the atom: where it starts and ends in the text
--   name_of s a k         the same of the symbol table of the text; nothing where the text is refused
--   is_named, name_said     (src/named.rt) whether a word is a name of the atom, and that name
use Rattle.std.specs.Prelude.{Bool, true, false, List, [], ◌∷◌, ℕ, ◌+◌, ◌-◌, length, Option, Some, None}
use Rattle.meaning.specs.Choice.{ifb, if_eq}
use Rattle.imported.specs.declared.TextAtom.{TextAtom}
use Rattle.imported.specs.Text.{same_text}
use Rattle.lparse.specs.declared.due.Standing.{Standing}
use Rattle.lparse.specs.declared.due.Standing.TheVariants.{Head as InHead, Free as InFree, Negative as InNegative, Positive as InPositive, Table as InTable, Plus as InPlus, Minus as InMinus}
use Rattle.lparse.specs.declared.due.Said.{Said}
use Rattle.lparse.specs.declared.due.Said.TheVariants.{Nothing as Silent, Choice as Chooses, Atom}
use Rattle.lparse.specs.Reading.{text_atom, Entry, Heard, says, wrong}
use Rattle.lparse.specs.Collect.{text_in}
use Rattle.lparse.specs.Forming.{place_of}

unfoldable pub whose_in : List ℕ → List ℕ → ℕ → Option TextAtom
whose_in all [] n = None
whose_in all (x ∷ l) n = if_eq (place_of all (text_atom x)) n (Some (text_atom x)) (whose_in all l n)

abbrev pub whose_of : List ℕ → ℕ → Option TextAtom
whose_of atoms n = whose_in atoms atoms n

unfoldable pub nth_in : List Entry → TextAtom → ℕ → Option (ℕ × ℕ)
nth_in [] a k = None
nth_in (e ∷ l) a k =
    ifb (same_text a e.atom) (if_eq k 0 (Some (e.name.place, (e.name.place + length e.name.bytes))) (nth_in l a (k - 1))) (nth_in l a k)

unfoldable pub name_heard : Heard → TextAtom → ℕ → Option (ℕ × ℕ)
name_heard (says p) a k = nth_in p.table a k
name_heard (wrong i at) a k = None

abbrev pub name_of : List ℕ → TextAtom → ℕ → Option (ℕ × ℕ)
name_of s a k = name_heard (text_in s) a k

-- ---- what the functions of src/ hand each other

unfoldable pub in_table : Standing → Bool
in_table InHead = false
in_table InFree = false
in_table InNegative = false
in_table InPositive = false
in_table InTable = true
in_table InPlus = false
in_table InMinus = false

unfoldable pub is_named : Said → TextAtom → Bool
is_named Silent a = false
is_named Chooses a = false
is_named (Atom c standing) a = ifb (in_table standing) (same_text a c) false

abbrev pub name_at : Bool → ℕ → ℕ → Option (ℕ × ℕ)
name_at named from end = ifb named (Some (from, end)) None

-- the name of the atom that a word from one place to another says
abbrev pub name_said : Said → TextAtom → ℕ → ℕ → Option (ℕ × ℕ)
name_said said a from end = name_at (is_named said a) from end
