-- A book made rule by rule (src/making.rt). The parts of a rule are handed over as tables, so they come out ascending and each atom once;
-- the draft, an array that any book fits in, holds the records of the rules so far. Document 01, "The rule book".
--
--   atoms_from i n s      those of i, i + 1, .. , n of them, that are in s
--   listed t             the atoms of a table
--   rule_by h pos neg     the rule of a head and two tables
--   Small l              the rules keep the format's limits: 255 rules, atoms up to 254, 16 atoms in a part
--   takes m r            a rule fits behind those that were made
--   Puts l at d n e      the bytes l were written at `at` of the draft's 9,441, and n is where they end
--   Made l m d           the records of the rules l stand in the draft; or l do not keep the limits, and m says so
--   Adds l m d n e       whatever rules were made, those of l were added behind them
use Rattle.std.specs.Prelude.{◌≡◌, Bool, true, false, ◌&&◌, ℕ, zero, suc, ◌+◌, ◌≤◌, ◌<◌, ltb, leb, length, get_or, take}
use mathlib.Core.List.{List, [], ◌∷◌, ◌++◌, Memᴰ}
use Rattle.meaning.specs.declared.AtomNo.{AtomNo}
use Rattle.meaning.specs.Sets.{Set}
use Rattle.meaning.specs.Books.{atom_no, Rule, Book}
use Rattle.book.specs.Format.{book_bytes}
use Rattle.book.specs.declared.making.Making.{Making}
use Rattle.book.specs.Writing.{records_bytes, bytes_of_book}

unfoldable pub atom_if : Bool → AtomNo → List AtomNo → List AtomNo
atom_if true a l = a ∷ l
atom_if false a l = l

unfoldable pub atoms_from : ℕ → ℕ → Set ℕ → List AtomNo
atoms_from i zero s = []
atoms_from i (suc n) s = atom_if (s i) (atom_no i) (atoms_from (suc i) n s)

-- the atoms that a table says yes of
abbrev pub said_of : List Bool → Set ℕ
said_of t n = get_or t n false

abbrev pub listed : List Bool → List AtomNo
listed t = atoms_from 0 255 (said_of t)

abbrev pub rule_by : AtomNo → List Bool → List Bool → Rule
rule_by h pos neg = record { head = h; pos = listed pos; neg = listed neg }

-- ---- the limits that hold for every book, however many atoms it has

pub record SmallPart (l : List AtomNo) : Type 0 where
  pub short : length l ≤ 16
  pub below : (a : AtomNo) → Memᴰ a l → a.0 < 255

pub record SmallRule (r : Rule) : Type 0 where
  pub head : r.head.0 < 255
  pub pos : SmallPart r.pos
  pub neg : SmallPart r.neg

pub record Small (l : List Rule) : Type 0 where
  pub rules : length l ≤ 255
  pub each : (r : Rule) → Memᴰ r l → SmallRule r

-- ---- the draft

pub record Puts (l : List ℕ) (at : ℕ) (before : List ℕ) (n : ℕ) (after : List ℕ) : Type 0 where
  pub long : length after ≡ length before
  pub ends : n ≡ at + length l
  pub bytes : length before ≡ book_bytes → take n after ≡ take at before ++ l

-- one rule more: 254 records of at most 35 bytes stand before it
unfoldable pub takes : Making → ℕ → ℕ → ℕ → Bool
takes m head p n = ltb m.rules 255 && (ltb m.length 8891 && (ltb head 255 && (leb p 16 && leb n 16)))

-- m says how many bytes and rules there are, and whether all rules kept the limits; if not, it says nothing else
pub data Made (l : List Rule) (m : Making) (draft : List ℕ) : Type 0 where
  whole : length draft ≡ book_bytes → m.fits ≡ true → Small l → m.rules ≡ length l → m.length ≡ length (records_bytes l)
      → take m.length draft ≡ records_bytes l → Made l m draft
  passed : length draft ≡ book_bytes → m.fits ≡ false → ¬ Small l → Made l m draft

pub record Adds (l : List Rule) (m : Making) (before : List ℕ) (n : Making) (after : List ℕ) : Type 0 where
  pub behind : (k : List Rule) → Made k m before → Made (k ++ l) n after

-- the draft begins with the book of these rules, which has n bytes
pub record Finished (b : Book) (n : ℕ) (draft : List ℕ) : Type 0 where
  pub long : length draft ≡ book_bytes
  pub size : n ≡ length (bytes_of_book b)
  pub bytes : take n draft ≡ bytes_of_book b
