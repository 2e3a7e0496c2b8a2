-- A good book whose numbers are bytes, as every function of this crate is handed one, and what it says of the book's rules.
use mathlib.Core.Path.{◌≡◌}
use mathlib.Core.List.{List}
use Prim.Native.Nat.{ℕ, ◌≤◌, ◌<◌}
use native.Mathlib.Omega.{arith}
use Rattle.meaning.specs.declared.AtomNo.{AtomNo}
use Rattle.meaning.specs.declared.RuleNo.{RuleNo}
use Rattle.meaning.specs.Sets.{every}
use Rattle.meaning.specs.Books.{Atoms, Book, count, rule, InBook}
use Rattle.book.specs.declared.reader.Shape.{Shape}
use Rattle.book.specs.declared.read.ReadBook.{ReadBook}
use Rattle.book.specs.Format.{book_in, ReadAs}
use Rattle.book.specs.Tables.{atom_table, atoms_in, Below}
use Rattle.book.specs.Writing.{atom_bytes, RuleFits}
use Rattle.book.proofs.Places.{shape-count, shape-in, in-shape, rule-keeps, head-below, pos-below}
use Rattle.book.proofs.Asked.{every-table}

pub record Good (s : List ℕ) (h : Shape) : Type 0 where
  pub read : ReadAs s h
  pub atoms : h.atoms < 256
  pub rules : h.rules < 256

-- a book that was read is good
pub good-book : (b : ReadBook) → Good b.bytes.now b.shape
good-book b = record { read = b.read_as; atoms = b.small.0; rules = b.small.1 }

module _ {s : List ℕ} {h : Shape} (g : Good s h) where
  pub good-count : count (book_in s) ≡ h.rules
  good-count = shape-count s h g.read

  pub good-few : count (book_in s) ≤ 255
  good-few = omega (arith, good-count, g.rules)

  pub good-in : (r : RuleNo) → r.0 < h.rules → InBook (book_in s) r
  good-in r l = shape-in s h g.read r l

  module _ (r : RuleNo) (l : InBook (book_in s) r) where
    pub head-low : (a : AtomNo) → a ≡ (rule (book_in s) r).head → a.0 < 255
    head-low a e = omega (arith, g.atoms, head-below s h g.read r (in-shape s h g.read r l) a e)

    pub pos-low : (part : List ℕ) → part ≡ atom_bytes (rule (book_in s) r).pos → Below 255 part
    pos-low part e = pos-below s h g.read r (in-shape s h g.read r l) g.atoms part e

-- what a table answers, asked for the atoms of a rule of the book
pub record Asks (b : Book) : Type 0 where
  pub few : count b ≤ 255
  pub pos : (r : RuleNo) → InBook b r → (x : Atoms) → every (atoms_in (atom_table x)) (rule b r).pos ≡ every x (rule b r).pos

pub good-asks : {s : List ℕ} {h : Shape} → Good s h → Asks (book_in s)
good-asks {s} {h} g = record {
  few = good-few g;
  pos = λ r l x. every-table x _ (λ a m. omega (arith, g.atoms, (keeps r l).pos.below a m));
}
  where
    keeps : (r : RuleNo) → InBook (book_in s) r → RuleFits h.atoms (rule (book_in s) r)
    keeps r l = rule-keeps s h g.read r (in-shape s h g.read r l)
