-- The book's rules made of what the words say, in the code's terms (src/form.rt): what one word does to the rule that is open, and the
-- rules that it adds.
--
--   place_of atoms a       how many of these atoms are smaller: the atom's number
--   entry_by e s           whether a list had an entry, with an atom that stands at s
--   entry_rules s h n      the rule for an entry of B+ or of B-: h is the helper
--   closes due            a rule's type is due: the rule that was open is whole
--   helper_behind h b n    the next helper behind a rule of n heads: a choice has one for each
--   formed_said, said_rules         the open rule behind what a word says, and the rules that it adds
--   closed_by, rule_closed          the same where the word makes the open rule whole
--   Forms a l h g m d f e         the rules l were added to those of m, whatever the next helper and the heads are, and else f is g
use Rattle.std.specs.Prelude.{◌≡◌, Bool, true, false, List, [], ◌∷◌, map, ℕ, ◌+◌, ◌<◌, ◌≤◌, length}
use Rattle.meaning.specs.Books.{atom_no, Rule}
use Rattle.book.specs.declared.making.Making.{Making}
use Rattle.meaning.specs.Choice.{ifb}
use Rattle.book.specs.Making.{Adds}
use Rattle.imported.specs.declared.TextAtom.{TextAtom}
use Rattle.imported.specs.Making.{count_in, below}
use Rattle.lparse.specs.declared.due.Role.{Role}
use Rattle.lparse.specs.declared.due.Role.TheVariants.{Kind, Head, HeadCount, Heads, Literals, Negatives, Negative, Positive, Table, Plus, Minus, Models}
use Rattle.lparse.specs.declared.due.Due.{Due}
use Rattle.lparse.specs.declared.due.Due.TheVariants.{Number, Name, PlusWord, MinusWord, End}
use Rattle.lparse.specs.declared.due.Standing.{Standing}
use Rattle.lparse.specs.declared.due.Standing.TheVariants.{Head as InHead, Free as InFree, Negative as InNegative, Positive as InPositive, Table as InTable, Plus as InPlus, Minus as InMinus}
use Rattle.lparse.specs.declared.due.Said.{Said}
use Rattle.lparse.specs.declared.due.Said.TheVariants.{Nothing as Silent, Choice as Chooses, Atom}
use Rattle.lparse.specs.declared.rule.Opened.{Opened}
use Rattle.lparse.specs.declared.form.Forming.{Forming}
use Rattle.lparse.specs.Reading.{text_atom}
use Rattle.lparse.specs.Opened.{capped, opening, opened_by, open_rules, Ready}

unfoldable pub place_of : List ℕ → TextAtom → ℕ
place_of atoms a = count_in (below a) (map text_atom atoms)

unfoldable pub entry_by : Bool → Standing → Bool
entry_by e InHead = e
entry_by e InFree = e
entry_by e InNegative = e
entry_by e InPositive = e
entry_by e InTable = e
entry_by e InPlus = true
entry_by e InMinus = true

unfoldable pub entry_rules : Standing → ℕ → ℕ → List Rule
entry_rules InHead h n = []
entry_rules InFree h n = []
entry_rules InNegative h n = []
entry_rules InPositive h n = []
entry_rules InTable h n = []
entry_rules InPlus h n = record { head = atom_no h; pos = []; neg = atom_no n ∷ (atom_no h ∷ []) } ∷ []
entry_rules InMinus h n = record { head = atom_no h; pos = atom_no n ∷ []; neg = atom_no h ∷ [] } ∷ []

unfoldable pub opens_rule : Role → Bool
opens_rule Kind = true
opens_rule Head = false
opens_rule HeadCount = false
opens_rule (Heads n) = false
opens_rule Literals = false
opens_rule (Negatives n) = false
opens_rule (Negative m n) = false
opens_rule (Positive n) = false
opens_rule Table = false
opens_rule Plus = false
opens_rule Minus = false
opens_rule Models = false

unfoldable pub closes : Due → Bool
closes (Number role) = opens_rule role
closes (Name a) = false
closes PlusWord = false
closes MinusWord = false
closes End = false

unfoldable pub helper_behind : ℕ → Bool → ℕ → ℕ
helper_behind h free count = ifb free (capped (h + count)) h

-- a choice begins with no heads; no word changes the rules made by itself
unfoldable pub formed_said : Forming → List ℕ → Said → Forming
formed_said f atoms Silent = f
formed_said f atoms Chooses = record { making = f.making; rule = opening true; helper = f.helper; entry = f.entry }
formed_said f atoms (Atom a standing) = record {
  making = f.making;
  rule = opened_by f.rule (place_of atoms a) standing;
  helper = f.helper;
  entry = entry_by f.entry standing;
}

-- h is the helper's number
unfoldable pub said_rules : ℕ → List ℕ → Said → List Rule
said_rules h atoms Silent = []
said_rules h atoms Chooses = []
said_rules h atoms (Atom a standing) = entry_rules standing h (place_of atoms a)

-- the open rule is whole
abbrev pub shut : Forming → Forming
shut g = record {
  making = g.making;
  rule = g.rule;
  helper = helper_behind g.helper g.rule.free g.rule.count;
  entry = g.entry;
}

abbrev pub shut_rules : ℕ → List ℕ → Opened → List Rule
shut_rules c l o = open_rules o.free c l o.pos o.neg

unfoldable pub closed_by : Due → Forming → Forming
closed_by next g = ifb (closes next) (shut g) g

unfoldable pub rule_closed : Due → ℕ → List ℕ → Opened → List Rule
rule_closed next c l o = ifb (closes next) (shut_rules c l o) []

-- c is the next helper, told as h, and l are the heads of the open rule; all atoms of the text are below c
pub record Forms (atoms : List ℕ) (rules : ℕ → List ℕ → List Rule) (h : ℕ) (g : Forming) (m : Making) (before : List ℕ) (f : Forming) (after : List ℕ) : Type 0 where
  pub adds : (c : ℕ) (l : List ℕ) → length atoms ≤ c → Ready c l h g.rule → Adds (rules c l) m before f.making after
  pub rule : f.rule ≡ g.rule
  pub helper : f.helper ≡ g.helper
  pub entry : f.entry ≡ g.entry

-- an atom that is said has a number below how many atoms there are, and there are at most 255
unfoldable pub Placed : List ℕ → Said → Type 0
Placed atoms Silent = length atoms ≤ 255
Placed atoms Chooses = length atoms ≤ 255
Placed atoms (Atom a standing) = (place_of atoms a < length atoms) × (length atoms ≤ 255)
