-- What the functions that read the lines hand one another. A part's atoms are handed on as a table, unless one of them is beyond it.
--
--   Held l small t       the table t has the atoms l and no other; or one of l is beyond it, and `small` says so
--   PartSeen s sign at p small t   the part that stands at `at`: p tells its size, its largest number and where the text goes on
use Rattle.std.specs.Prelude.{◌≡◌, Bool, true, false, ℕ, ◌+◌, ◌<◌, ◌≤◌, length, drop}
use mathlib.Core.List.{List, Memᴰ}
use Rattle.meaning.specs.declared.AtomNo.{AtomNo}
use Rattle.meaning.specs.Sets.{◌∈◌, ascending}
use Rattle.book.specs.Writing.{atom_bytes}
use Rattle.book.specs.Making.{said_of}
use Rattle.aspif.specs.declared.part.Part.{Part}
use Rattle.aspif.specs.Reading.{got, whole_part, top_atom}

pub data Held (l : List AtomNo) : Bool → List Bool → Type 0 where
  held : {t : List Bool} → length t ≡ 255 → ((a : AtomNo) → Memᴰ a l → (a.0 < 255) × (a.0 ∈ said_of t))
      → ((a : AtomNo) → a.0 ∈ said_of t → Memᴰ a l) → Held l true t
  beyond : {t : List Bool} {a : AtomNo} → length t ≡ 255 → Memᴰ a l → 255 ≤ a.0 → Held l false t

-- each atom is greater than the one before it
abbrev pub Rises : List AtomNo → Type 0
Rises l = ascending (atom_bytes l) ≡ true

pub record PartSeen (s sign : List ℕ) (at : ℕ) (p : Part) (t : List Bool) : Type 0 where
  pub atoms : List AtomNo
  pub read : whole_part (length s) sign (drop at s) ≡ got atoms (drop p.next s)
  pub ahead : at ≤ p.next
  pub inside : p.next ≤ length s
  pub count : p.count ≡ length atoms
  pub few : at + p.count ≤ p.next
  pub top : p.top ≡ top_atom atoms
  pub table : Held atoms p.small t
