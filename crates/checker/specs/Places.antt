-- Row 27 of document 01's table: what is wrong with a witness, and its place. Nothing is computed from this; the answer is that of Check.
--
--   InTurn b l i             byte i of the list l may stand behind those before it
--   Unblocked b l i          byte i of the list is a rule that has no negative atom in X, the heads of the listed rules
--   WrongAt b s from l at    what is wrong with the bytes l, the witness of the paper s from `from` on
--   UngroundedAt b s from l k at   the same by the claim: where it is that there is no answer set, that a rule is listed is wrong
use Rattle.std.specs.Prelude.{◌≡◌, true, false, List, map, ℕ, ◌+◌, ◌-◌, ◌<◌, length, get_or, take}
use Rattle.meaning.specs.declared.RuleNo.{RuleNo}
use Rattle.meaning.specs.Sets.{◌∉◌, every, some}
use Rattle.meaning.specs.Books.{Atoms, Rules, rule_no, among, Book, count, rule, InBook}
use Rattle.meaning.specs.Colours.{heads}
use Rattle.meaning.specs.Paper.{fails}
use Rattle.meaning.specs.declared.AtomNo.{AtomNo}
use Rattle.meaning.specs.declared.kind.Kind.{Kind}
use Rattle.meaning.specs.declared.kind.Claim.{Claim}
use Rattle.meaning.specs.declared.kind.Claim.TheVariants.{NoReading}
use Rattle.meaning.specs.Claim.{claim}

-- "each byte in turn for number, repetition and positive atoms": the rule n may stand behind the rules before it
pub record Follows (b : Book) (before : Rules) (n : ℕ) : Type 0 where
  pub below : n < count b
  pub new : rule_no n ∉ before
  pub held : every (heads b before) (rule b (rule_no n)).pos ≡ true

abbrev pub InTurn : Book → List ℕ → ℕ → Type 0
InTurn b l i = Follows b (among (map rule_no (take i l))) (get_or l i 0)

-- "X is the set of their heads"
abbrev pub heads_of : Book → List ℕ → Atoms
heads_of b l = heads b (among (map rule_no l))

-- "then each byte for negative atoms"
abbrev pub Unblocked : Book → List ℕ → ℕ → Type 0
Unblocked b l i = some (heads_of b l) (rule b (rule_no (get_or l i 0))).neg ≡ false

abbrev pub Each : (ℕ → Type 0) → ℕ → Type 0
Each p n = (i : ℕ) → i < n → p i

-- "both with that byte as place; last an unlisted rule, with place length - 6"
pub data WrongAt (b : Book) (s : List ℕ) (from : ℕ) (l : List ℕ) : ℕ → Type 0 where
  not-next : (i : ℕ) → i < length l → Each (InTurn b l) i → ¬ InTurn b l i → WrongAt b s from l (from + i)
  has-negative : (i : ℕ) → i < length l → Each (InTurn b l) (length l) → Each (Unblocked b l) i → ¬ Unblocked b l i
      → WrongAt b s from l (from + i)
  left_out : Each (InTurn b l) (length l) → Each (Unblocked b l) (length l) → (r : RuleNo) → InBook b r → r ∉ among (map rule_no l)
      → fails (heads_of b l) (rule b r) ≡ false → WrongAt b s from l (length s - 6)

pub data UngroundedAt (b : Book) (s : List ℕ) (from : ℕ) (l : List ℕ) : Claim → ℕ → Type 0 where
  wrong-witness : {q : Kind} {a : AtomNo} {at : ℕ} → WrongAt b s from l at → UngroundedAt b s from l (claim q a) at
  lists-a-rule : 0 < length l → UngroundedAt b s from l NoReading from
