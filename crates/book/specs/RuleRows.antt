-- Where the atoms of a book stand, as a table of 768 rows of four words, each a set of rules. Document 02, request 11: "for each atom the
-- set of rules with that head, made once for a book"; and with them the sets of rules that have the atom in a part of their body.
--
--   row t k          the words of row k
--   sets t k         the set that row k stands for
--   in_part first l   the rows `first` + a of the atoms a of a part
--   in_rows p         the rows that a rule stands in: by its head, by its positive atoms from 256 on, by its negative ones from 512 on
--   entered r ks s   the sets s with rule r entered in the rows ks
--   headed_by t s, lost_by t s   asked by the rows: the atoms whose row of heads meets the set; those whose row lies within it
--   RuleRows b t     the table is that of the book: it says every bit
use Rattle.std.specs.Prelude.{◌≡◌, ◌&&◌, ◌||◌, List, [], ◌∷◌, ℕ, ◌+◌, ◌*◌, ◌<◌, eqb, ltb, length, get_or}
use Rattle.meaning.specs.Sets.{Set, some, every_below, some_below}
use Rattle.meaning.specs.Books.{Atoms, Rule, Book, atom_no, rule_no, same_atom, rule, count}
use Rattle.meaning.specs.Bits.{both, implied, members}
use Rattle.book.specs.Writing.{atom_bytes}

unfoldable pub row : List ℕ → ℕ → List ℕ
row t k = get_or t (k * 4) 0 ∷ get_or t (k * 4 + 1) 0 ∷ get_or t (k * 4 + 2) 0 ∷ get_or t (k * 4 + 3) 0 ∷ []

unfoldable pub sets : List ℕ → ℕ → Set ℕ
sets t k = members (row t k)

unfoldable pub in_part : ℕ → List ℕ → Set ℕ
in_part first l k = some (λ a. eqb k (first + a)) l

unfoldable pub in_rows : Rule → Set ℕ
in_rows p k = eqb k p.head.0 || (in_part 256 (atom_bytes p.pos) k || in_part 512 (atom_bytes p.neg) k)

unfoldable pub entered : ℕ → Set ℕ → (ℕ → Set ℕ) → ℕ → Set ℕ
entered r ks s k i = s k i || (ks k && eqb i r)

unfoldable pub headed_by : List ℕ → List ℕ → Atoms
headed_by t s a = some_below 256 (both (sets t a.0) (members s))

unfoldable pub lost_by : List ℕ → List ℕ → Atoms
lost_by t s a = every_below 256 (implied (sets t a.0) (members s))

pub record RuleRows (b : Book) (t : List ℕ) : Type 0 where
  pub long : length t ≡ 3072
  pub head : (a : ℕ) → a < 256 → sets t a ≡ (λ r. ltb r (count b) && same_atom (rule b (rule_no r)).head (atom_no a))
  pub pos : (a : ℕ) → a < 256 → sets t (256 + a) ≡ (λ r. ltb r (count b) && some (same_atom (atom_no a)) (rule b (rule_no r)).pos)
  pub neg : (a : ℕ) → a < 256 → sets t (512 + a) ≡ (λ r. ltb r (count b) && some (same_atom (atom_no a)) (rule b (rule_no r)).neg)
