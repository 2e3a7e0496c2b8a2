-- The rule that is open while its words are read, in the code's terms (src/rule.rt), and the rules of the book that it becomes, head by
-- head (src/adding.rt). Document 02, request 10: "for each head one rule with that body and a negative helper, and one rule giving the
-- helper when the head is absent."
--
--   capped n              a count, told up to 256: no book has so many atoms or rules
--   opening free          a rule without heads and without body
--   head_more o n          one head more
--   opened_by o n s        the open rule with one atom more, whose number is n
--   head_rules free c n pos neg     the rules for one head: two for that of a choice, whose helper is c
--   open_rules free c l pos neg     the rules for all heads: the helper of the first is c
--   Heads l o             the heads are l, and the array holds them if it has room
--   Clear t c             the table has no atom from c on
--   Low heads n           the first n heads of the array are atoms of a table
--   Ready c l h o         c is the next helper, told as h, and l are the heads
use Rattle.std.specs.Prelude.{◌≡◌, Bool, true, false, List, [], ◌∷◌, ◌++◌, ℕ, suc, ◌+◌, ◌≤◌, ◌<◌, length, take, get_or, set, replicate}
use Rattle.meaning.specs.Choice.{if_lt}
use Rattle.meaning.specs.Books.{atom_no, Rule}
use Rattle.book.specs.Making.{listed, rule_by}
use Rattle.lparse.specs.declared.due.Standing.{Standing}
use Rattle.lparse.specs.declared.due.Standing.TheVariants.{Head as InHead, Free as InFree, Negative as InNegative, Positive as InPositive, Table as InTable, Plus as InPlus, Minus as InMinus}
use Rattle.lparse.specs.declared.rule.Opened.{Opened}

unfoldable pub capped : ℕ → ℕ
capped n = if_lt 256 n 256 n

abbrev pub no_atoms : List Bool
no_atoms = replicate 255 false

abbrev pub no_heads : List ℕ
no_heads = replicate 255 0

unfoldable pub opening : Bool → Opened
opening free = record { free = free; heads = no_heads; count = 0; pos = no_atoms; neg = no_atoms }

-- a head beyond the array is only counted
unfoldable pub head_more : Opened → ℕ → Opened
head_more o n = record { free = o.free; heads = set o.heads o.count n; count = capped (o.count + 1); pos = o.pos; neg = o.neg }

-- a basic rule's head opens it
unfoldable pub opened_by : Opened → ℕ → Standing → Opened
opened_by o n InHead = head_more (opening false) n
opened_by o n InFree = head_more o n
opened_by o n InNegative = record { free = o.free; heads = o.heads; count = o.count; pos = o.pos; neg = set o.neg n true }
opened_by o n InPositive = record { free = o.free; heads = o.heads; count = o.count; pos = set o.pos n true; neg = o.neg }
opened_by o n InTable = o
opened_by o n InPlus = o
opened_by o n InMinus = o

-- ---- the rules

unfoldable pub head_rules : Bool → ℕ → ℕ → List Bool → List Bool → List Rule
head_rules false c n pos neg = rule_by (atom_no n) pos neg ∷ []
head_rules true c n pos neg =
    record { head = atom_no n; pos = listed pos; neg = listed neg ++ (atom_no c ∷ []) }
    ∷ (record { head = atom_no c; pos = []; neg = atom_no n ∷ [] } ∷ [])

unfoldable pub open_rules : Bool → ℕ → List ℕ → List Bool → List Bool → List Rule
open_rules free c [] pos neg = []
open_rules free c (n ∷ l) pos neg = head_rules free c n pos neg ++ open_rules free (suc c) l pos neg

-- ---- what the functions of src/ hand each other

pub record Heads (l : List ℕ) (o : Opened) : Type 0 where
  pub long : length o.heads ≡ 255
  pub counted : o.count ≡ capped (length l)
  pub stored : length l ≤ 255 → take (length l) o.heads ≡ l

pub record Clear (t : List Bool) (c : ℕ) : Type 0 where
  pub long : length t ≡ 255
  pub above : (n : ℕ) → c ≤ n → get_or t n false ≡ false

pub record Low (heads : List ℕ) (n : ℕ) : Type 0 where
  pub long : length heads ≡ 255
  pub below : (i : ℕ) → i < n → get_or heads i 0 < 255

pub record Ready (c : ℕ) (l : List ℕ) (h : ℕ) (o : Opened) : Type 0 where
  pub helper : h ≡ capped c
  pub heads : Heads l o
  pub low : (i : ℕ) → i < length l → get_or l i 0 < 255
  pub clear : Clear o.neg c
