-- How many rules of a book have an atom as head.
--
--   has_head a q       whether rule q has the atom as head
--   rules_with a b     how many of the book's rules have it as head
use Rattle.std.specs.Prelude.{Bool, ℕ, length, filter}
use Rattle.meaning.specs.declared.AtomNo.{AtomNo}
use Rattle.meaning.specs.Books.{Rule, Book, same_atom}

abbrev pub has_head : AtomNo → Rule → Bool
has_head a q = same_atom q.head a

unfoldable pub rules_with : AtomNo → Book → ℕ
rules_with a b = length (filter (has_head a) b.rules)
