-- Where a rule stands in a good book: what the functions that read its parts go by. Document 01, "The rule book": "head, count p of
-- positive atoms, count n of negative atoms, the positive atoms, the negative atoms".
use Rattle.std.specs.Prelude.{◌≡◌, List, ℕ, ◌+◌, ◌≤◌, length, get_or, take, drop}
use Rattle.meaning.specs.Books.{atom_no, Rule}
use Rattle.book.specs.Writing.{atom_bytes}

-- the record at `at` lies within the bytes and holds the rule r
pub record RuleAt (s : List ℕ) (at : ℕ) (r : Rule) : Type 0 where
  pub within : at + 3 + get_or s (at + 1) 0 + get_or s (at + 2) 0 ≤ length s
  pub head : r.head ≡ atom_no (get_or s at 0)
  pub pos : atom_bytes r.pos ≡ take (get_or s (at + 1) 0) (drop (at + 3) s)
  pub neg : atom_bytes r.neg ≡ take (get_or s (at + 2) 0) (drop (at + 3 + get_or s (at + 1) 0) s)
