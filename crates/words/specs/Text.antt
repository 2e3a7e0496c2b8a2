-- A book in words: every book has a text. The atoms are listed first, then comes a line for each rule: the head, the positive atoms, and
-- the negative ones with `not`.
--
--   GoodNames l      each is a name, and no two are the same
--   text_of b l       the book's text with these names
use Rattle.std.specs.Prelude.{◌≡◌, List, [], ◌∷◌, ◌++◌, ℕ, ◌<◌, length, get_or}
use Rattle.meaning.specs.declared.AtomNo.{AtomNo}
use Rattle.meaning.specs.Books.{Rule, Book}
use Rattle.words.specs.declared.term.Term.TheVariants.{Name}
use Rattle.words.specs.Terms.{term_of, if_word, and_word, not_word, atoms_word}

pub record GoodNames (l : List (List ℕ)) : Type 0 where
  pub each : (i : ℕ) → i < length l → term_of (get_or l i []) ≡ Name
  pub apart : (i j : ℕ) → i < length l → j < length l → get_or l i [] ≡ get_or l j [] → i ≡ j

-- a space in front
abbrev pub spaced : List ℕ → List ℕ
spaced w = 32 ∷ w

unfoldable pub spaced_all : List (List ℕ) → List ℕ
spaced_all [] = []
spaced_all (w ∷ l) = spaced w ++ spaced_all l

abbrev pub name_of : List (List ℕ) → AtomNo → List ℕ
name_of l a = get_or l a.0 []

-- a literal's words, and those of a whole body
unfoldable pub literals : List (List ℕ) → List (List ℕ) → List AtomNo → List (List (List ℕ))
literals sign l [] = []
literals sign l (a ∷ more) = (sign ++ (name_of l a ∷ [])) ∷ literals sign l more

abbrev pub body_of : List (List ℕ) → Rule → List (List (List ℕ))
body_of l r = literals [] l r.pos ++ literals (not_word ∷ []) l r.neg

-- the first literal behind `if`, the others behind `and`
unfoldable pub linked : List ℕ → List (List (List ℕ)) → List (List ℕ)
linked w [] = []
linked w (x ∷ xs) = (w ∷ x) ++ linked and_word xs

abbrev pub line_of : List ℕ → List (List ℕ) → List ℕ
line_of first others = first ++ (spaced_all others ++ (10 ∷ []))

abbrev pub rule_line : List (List ℕ) → Rule → List ℕ
rule_line l r = line_of (name_of l r.head) (linked if_word (body_of l r))

unfoldable pub rule_lines : List (List ℕ) → List Rule → List ℕ
rule_lines l [] = []
rule_lines l (r ∷ rs) = rule_line l r ++ rule_lines l rs

unfoldable pub text_of : Book → List (List ℕ) → List ℕ
text_of b l = line_of atoms_word l ++ rule_lines l b.rules
