-- What the functions hand one another that tell whether a reading is the first of those that match it. The shown atoms come as a set of
-- numbers in four words, a reading as the set of the rules that generate it. No promise of another crate speaks of this.
--
--   shown_in w            the atoms of the set that words stand for, in order: the list of shown atoms
--   in_list l             the numbers of a list
--   part_of t mask on     of the atoms in mask, those that are heads of rules in on, asked of the table of rows t
--   with_heads t atoms    the rules that have a head among the atoms, asked of the same table
--   lost_in t atoms off   some of the atoms has all its rules off, asked of the same table
--   Generated b on       on are the generating rules of the answer set that their heads are
--   Searches b s x inside on c   the search from c for the first reading alike x may start: inside are the shown atoms of x, on its
--                        generating rules, and c has every rule off whose head is a shown atom outside x
--   TellsFirst b inside on c v   the verdict v that such a search comes to
--   KeptOne b s part on  a row of the memory: the shown part of a reading that counts, and its generating rules
--   Remembers every b s seen n   the same, unless every reading counts, which asks nothing of the memory
--   Kept b s seen n      the first n rows of the memory, as far as it has room, are such rows, of eight words each
use Rattle.std.specs.Prelude.{◌≡◌, Bool, true, false, ◌&&◌, ℕ, zero, suc, ◌+◌, ◌*◌, ◌/◌, ◌<◌, eqb, length}
use mathlib.Core.List.{List, [], ◌∷◌, Memᴰ}
use Rattle.meaning.specs.declared.AtomNo.{AtomNo}
use Rattle.meaning.specs.declared.RuleNo.{RuleNo}
use Rattle.meaning.specs.Sets.{Set, ◌∈◌, some, some_below, every_below}
use Rattle.meaning.specs.Books.{Atoms, atom_no, Book, InBook}
use Rattle.meaning.specs.AnswerSet.{AnswerSet, generating}
use Rattle.meaning.specs.Bits.{both, implied, members, listed}
use Rattle.meaning.specs.Choice.{ifb}
use Rattle.meaning.specs.Colours.{Under, heads}
use Rattle.meaning.specs.Written.{Tables, of}
use Rattle.book.specs.RuleRows.{row, sets}
use Rattle.walk.specs.Events.{events}
use Rattle.walk.specs.Readings.{readings_in}
use Rattle.walk.specs.FirstAlike.{avoided, first_among, fresh}
use Rattle.walk.specs.declared.verdict.Verdict.{Verdict}

-- n numbers, of which the first is i
unfoldable pub atoms_from : ℕ → ℕ → Set ℕ → List AtomNo
atoms_from i zero s = []
atoms_from i (suc n) s = ifb (s i) (atom_no i ∷ atoms_from (suc i) n s) (atoms_from (suc i) n s)

unfoldable pub shown_in : List ℕ → List AtomNo
shown_in w = atoms_from 0 256 (members w)

unfoldable pub in_list : List ℕ → Set ℕ
in_list l i = some (eqb i) l

unfoldable pub part_of : List ℕ → List ℕ → List ℕ → Set ℕ
part_of t mask on i = members mask i && some_below 256 (both (sets t i) (members on))

unfoldable pub with_heads : List ℕ → List ℕ → Set ℕ
with_heads t atoms r = some_below 256 (λ a. members atoms a && sets t a r)

unfoldable pub lost_in : List ℕ → List ℕ → List ℕ → Bool
lost_in t atoms off = some_below 256 (λ a. members atoms a && every_below 256 (implied (sets t a) (members off)))

pub record Generated (b : Book) (on : List Bool) : Type 0 where
  pub answer : AnswerSet b (heads b (of on))
  pub rules : (r : RuleNo) → InBook b r → generating b (heads b (of on)) r ≡ of on r

pub record Searches (b : Book) (s : List AtomNo) (x : Atoms) (inside on : List ℕ) (c : Tables) : Type 0 where
  pub atoms-in : (a : AtomNo) → Memᴰ a s → a ∈ x → a.0 ∈ members inside
  pub atoms-of : (i : ℕ) → i ∈ members inside → Memᴰ (atom_no i) s × (atom_no i ∈ x)
  pub rules : (r : RuleNo) → InBook b r → generating b x r ≡ of (listed on) r
  pub avoids : Under b (avoided b s x) (of c.off)

-- of every list of shown atoms and every set x from which the search may start, the verdict is that on the readings of the walk from c
pub record TellsFirst (b : Book) (inside on : List ℕ) (c : Tables) (v : Verdict) : Type 0 where
  pub each : (s : List AtomNo) (x : Atoms) → Searches b s x inside on c → v ≡ first_among b s x (readings_in b (events b c))

pub record KeptOne (b : Book) (s : List AtomNo) (part on : List ℕ) : Type 0 where
  pub reading : Atoms
  pub answer : AnswerSet b reading
  pub counts : fresh b s reading ≡ true
  pub shows : (a : AtomNo) → Memᴰ a s → reading a ≡ members part a.0
  pub rules : (r : RuleNo) → InBook b r → generating b reading r ≡ of (listed on) r

abbrev pub Kept : Book → List AtomNo → List ℕ → ℕ → Type 0
Kept b s seen n = (k : ℕ) → k < n → k < length seen / 8 → KeptOne b s (row seen (k * 2)) (row seen (k * 2 + 1))

-- what is asked of the memory where not every reading counts
pub record Remembers (every : Bool) (b : Book) (s : List AtomNo) (seen : List ℕ) (n : ℕ) : Type 0 where
  pub kept : every ≡ false → Kept b s seen n
