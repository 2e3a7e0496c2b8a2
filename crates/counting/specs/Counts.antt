-- In how many answer sets each atom stands, and how many atoms of several books stand in each, in some or in none. Document 02, request 13:
-- "for each book its answer sets, and for each atom in how many it stands; then totals over all books of certain atoms, of atoms in some
-- sets but not all, and of atoms in none", "each total defined from answer sets and not as the rest": from HasOne on, no walk and no count
-- is named.
--
--   standing a l         how many sets of the list hold a
--   standings n l        the same for each of the first n atoms
--   Counts b n counts    n is the number of answer sets of b, and place a of the counts says how many of them hold a
--   HasOne b             the book has an answer set
--   InSome b a           some answer set holds a, and some does not
--   HowMany P n m        of the atoms below n, m have P
--   Total P bs m         m is the sum over the books of how many atoms of each have P
use Rattle.std.specs.Prelude.{◌≡◌, ℕ, zero, suc, ◌+◌, ◌<◌, List, [], ◌∷◌, length, slice_index}
use Rattle.meaning.specs.declared.AtomNo.{AtomNo}
use Rattle.meaning.specs.Sets.{◌∈◌, ◌∉◌}
use Rattle.meaning.specs.Books.{Atoms, atom_no, Book}
use Rattle.meaning.specs.AnswerSet.{AnswerSet}
use Rattle.meaning.specs.Choice.{ifb}
use Rattle.walk.specs.Readings.{AllReadings}

-- ---- the counts

unfoldable pub standing : AtomNo → List Atoms → ℕ
standing a [] = 0
standing a (x ∷ l) = ifb (x a) (suc (standing a l)) (standing a l)

-- n numbers, of which the first is f i
unfoldable pub numbers_from : ℕ → ℕ → (ℕ → ℕ) → List ℕ
numbers_from i zero f = []
numbers_from i (suc n) f = f i ∷ numbers_from (suc i) n f

abbrev pub standings : ℕ → List Atoms → List ℕ
standings n l = numbers_from 0 n (λ i. standing (atom_no i) l)

pub record Counts (b : Book) (n : ℕ) (counts : List ℕ) : Type 0 where
  pub list : List Atoms
  pub all : AllReadings b list
  pub number : n ≡ length list
  pub each : (a : AtomNo) → a.0 < b.atoms → slice_index counts a.0 ≡ standing a list

-- ---- certain, in some but not all, in none: Certain and Clear are in meaning

abbrev pub HasOne : Book → Type 0
HasOne b = (x : Atoms) × AnswerSet b x

-- "in some sets but not all"
pub record InSome (b : Book) (a : AtomNo) : Type 0 where
  pub holds : (x : Atoms) × AnswerSet b x × (a ∈ x)
  pub lacks : (x : Atoms) × AnswerSet b x × (a ∉ x)

pub data HowMany (P : AtomNo → Type 0) : ℕ → ℕ → Type 0 where
  none : HowMany P zero zero
  yes : {n m : ℕ} → P (atom_no n) → HowMany P n m → HowMany P (suc n) (suc m)
  no : {n m : ℕ} → ¬ P (atom_no n) → HowMany P n m → HowMany P (suc n) m

pub data Total (P : Book → AtomNo → Type 0) : List Book → ℕ → Type 0 where
  no-books : Total P [] zero
  and-book : {b : Book} {bs : List Book} {m n : ℕ} → HowMany (P b) b.atoms m → Total P bs n → Total P (b ∷ bs) (m + n)
