-- Two books joined into one. Document 02, request 9: "the second book's atoms and rules numbered on after the first's"; "the answer sets of the joined
-- book are exactly the unions of one from each, renumbered". Throughout, n is the atom count of the first book.
--
--   up_atom n a, up_rule n r    the atom, the rule with all its atoms, numbered on by n
--   joined b c                the book with the rules of b and behind them those of c, numbered on by b's atom count
--   below n                   the atoms below n
--   Own b                     every atom that the rules of b name is an atom of b: true of every book that is read as good
--   first_part n z             what the set z says of the first book's atoms
--   second_part n z            what it says of the second book's, by their numbers there
--   united n x y              the union of x and of y, numbered on by n
--   SomeAnswer b              the book has at least one answer set
use Rattle.std.specs.Prelude.{◌≡◌, true, ◌&&◌, ◌++◌, map, ℕ, ◌+◌, ◌-◌, ltb}
use Rattle.meaning.specs.declared.AtomNo.{AtomNo}
use Rattle.meaning.specs.Sets.{Set, every}
use Rattle.meaning.specs.Books.{Atoms, atom_no, Rule, Book}
use Rattle.meaning.specs.Choice.{if_lt}
use Rattle.meaning.specs.AnswerSet.{AnswerSet}

abbrev pub up_atom : ℕ → AtomNo → AtomNo
up_atom n a = atom_no (n + a.0)

unfoldable pub up_rule : ℕ → Rule → Rule
up_rule n r = record { head = up_atom n r.head; pos = map (up_atom n) r.pos; neg = map (up_atom n) r.neg }

unfoldable pub joined : Book → Book → Book
joined b c = record { atoms = b.atoms + c.atoms; rules = b.rules ++ map (up_rule b.atoms) c.rules }

unfoldable pub below : ℕ → Atoms
below n a = ltb a.0 n

unfoldable pub own_rule : ℕ → Set Rule
own_rule n r = below n r.head && (every (below n) r.pos && every (below n) r.neg)

abbrev pub Own : Book → Type 0
Own b = every (own_rule b.atoms) b.rules ≡ true

unfoldable pub first_part : ℕ → Atoms → Atoms
first_part n z a = ltb a.0 n && z a

unfoldable pub second_part : ℕ → Atoms → Atoms
second_part n z a = z (up_atom n a)

unfoldable pub united : ℕ → Atoms → Atoms → Atoms
united n x y a = if_lt a.0 n (x a) (y (atom_no (a.0 - n)))

abbrev pub SomeAnswer : Book → Type 0
SomeAnswer b = (x : Atoms) × AnswerSet b x
