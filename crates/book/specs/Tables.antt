-- Sets of atoms written out, as functions hand them to one another: place a of a list of 255 says whether atom a is in the set. By these
-- tables a pass over the rules asks of atoms.
--
--   atom_table x      the set, written out
--   atoms_in l        the set that a table stands for
--   said_by v b s     the heads of the rules in s; or, where v is false, the atoms all of whose rules are in s
use Rattle.std.specs.Prelude.{Bool, true, false, List, ℕ, ◌<◌, length, get_or}
use Rattle.meaning.specs.Books.{Atoms, Rules, atom_no, Book}
use Rattle.meaning.specs.Bits.{table_from}
use Rattle.meaning.specs.Colours.{heads, all_in}

unfoldable pub atom_table : Atoms → List Bool
atom_table x = table_from 0 255 (λ n. x (atom_no n))

unfoldable pub atoms_in : List Bool → Atoms
atoms_in l a = get_or l a.0 false

abbrev pub said_by : Bool → Book → Rules → Atoms
said_by true = heads
said_by false = all_in

-- every number of the list is below n
pub record Below (n : ℕ) (l : List ℕ) : Type 0 where
  pub at : (i : ℕ) → i < length l → get_or l i 0 < n
