-- What a word is, by its bytes alone. "A name: 1 to 64 bytes of A-Z a-z 0-9 _ - ', no digit first, not `if`, `and`, `not`, `unless`, `or`."
--
--   in_range low high x   from `low` to `high`
--   name_byte x           the byte may stand in a name
--   spelled l            1 to 64 such bytes, no digit first
--   term_of l             the word's kind
use Rattle.std.specs.Prelude.{Bool, true, false, List, [], ◌∷◌, ℕ, eqb, leb, length, get_or}
use Rattle.meaning.specs.Choice.{ifb, if_lt, if_eq}
use Rattle.meaning.specs.Sets.{every}
use Rattle.words.specs.declared.term.Term.{Term}
use Rattle.words.specs.declared.term.Term.TheVariants.{If, And, Not, Unless, Or, Atoms, Remark, Name, Other}
use Rattle.words.specs.Names.{same_bytes}

unfoldable pub in_range : ℕ → ℕ → ℕ → Bool
in_range low high x = if_lt x low false (leb x high)

abbrev pub digit : ℕ → Bool
digit x = in_range 48 57 x

-- a letter, a digit, or one of _ (95), - (45) and ' (39)
unfoldable pub name_byte : ℕ → Bool
name_byte x =
    ifb (in_range 97 122 x) true (ifb (in_range 65 90 x) true (ifb (digit x) true (if_eq x 95 true (if_eq x 45 true (eqb x 39)))))

unfoldable pub spelled : List ℕ → Bool
spelled l = if_eq (length l) 0 false (if_lt 64 (length l) false (ifb (digit (get_or l 0 0)) false (every name_byte l)))

-- the words with a meaning of their own
abbrev pub if_word : List ℕ
if_word = 105 ∷ (102 ∷ [])

abbrev pub and_word : List ℕ
and_word = 97 ∷ (110 ∷ (100 ∷ []))

abbrev pub not_word : List ℕ
not_word = 110 ∷ (111 ∷ (116 ∷ []))

abbrev pub unless_word : List ℕ
unless_word = 117 ∷ (110 ∷ (108 ∷ (101 ∷ (115 ∷ (115 ∷ [])))))

abbrev pub or_word : List ℕ
or_word = 111 ∷ (114 ∷ [])

abbrev pub atoms_word : List ℕ
atoms_word = 97 ∷ (116 ∷ (111 ∷ (109 ∷ (115 ∷ (58 ∷ [])))))

-- a word that starts with # (35) is a remark's; so is no name
unfoldable pub plain_term : List ℕ → Term
plain_term l = if_eq (get_or l 0 0) 35 Remark (ifb (spelled l) Name Other)

unfoldable pub term_of : List ℕ → Term
term_of l =
    ifb (same_bytes l if_word) If
    (ifb (same_bytes l and_word) And
    (ifb (same_bytes l not_word) Not
    (ifb (same_bytes l unless_word) Unless
    (ifb (same_bytes l or_word) Or
    (ifb (same_bytes l atoms_word) Atoms (plain_term l))))))
