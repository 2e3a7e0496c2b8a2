-- The words of a text and the ends of its lines. "Blanks are 20, 09 and 0D; 0A ends a line; the last line may lack it."
--
--   blank x          the byte parts words on a line: a space (32), a tab (9) or 13
--   parting x        the byte does not belong to a word: a blank or a line's end (10)
--   blanks l         how many blanks stand in front
--   span l           how many bytes in front belong to the word
--   start_of s at     where the next word or line's end is, from `at` on; the length where there is none
--   end_of s start    where the word that starts there ends
--   Word             the place of its first byte, and its bytes
--   Piece            a word, or a line's end with its place; the end of the text ends the last line
--   token_at s at     the next piece, in the code's terms
--   pieces s         the pieces of the text, in order; pieces_at s at: those from `at` on
use Rattle.std.specs.Prelude.{Bool, true, List, [], ◌∷◌, ℕ, zero, suc, ◌+◌, ◌-◌, eqb, length, get_or, take, drop}
use Rattle.meaning.specs.Choice.{ifb, if_lt, if_eq}
use Rattle.words.specs.declared.token.Token.{Token}
use Rattle.words.specs.declared.token.Token.TheVariants.{Word as AWord, Line, End}

unfoldable pub blank : ℕ → Bool
blank x = if_eq x 32 true (if_eq x 9 true (eqb x 13))

unfoldable pub parting : ℕ → Bool
parting x = ifb (blank x) true (eqb x 10)

unfoldable pub blanks : List ℕ → ℕ
blanks [] = 0
blanks (x ∷ l) = ifb (blank x) (suc (blanks l)) 0

unfoldable pub span : List ℕ → ℕ
span [] = 0
span (x ∷ l) = ifb (parting x) 0 (suc (span l))

unfoldable pub start_of : List ℕ → ℕ → ℕ
start_of s at = at + blanks (drop at s)

unfoldable pub end_of : List ℕ → ℕ → ℕ
end_of s start = start + span (drop start s)

pub record Word : Type 0 where
  pub place : ℕ
  pub bytes : List ℕ

-- the bytes from one place to another
abbrev pub between : List ℕ → ℕ → ℕ → List ℕ
between s from to = take (to - from) (drop from s)

unfoldable pub word_at : List ℕ → ℕ → Word
word_at s start = record { place = start; bytes = between s start (end_of s start) }

unfoldable pub token_at : List ℕ → ℕ → Token
token_at s at =
    if_lt (start_of s at) (length s)
    (if_eq (get_or s (start_of s at) 0) 10 (Line (start_of s at)) (AWord (start_of s at) (end_of s (start_of s at))))
    End

pub data Piece : Type 0 where
  word : Word → Piece
  line : ℕ → Piece

-- so many pieces at most, from `at` on, and the end of the text
unfoldable pub pieces_from : ℕ → List ℕ → ℕ → List Piece
pieces_from zero s at = line (length s) ∷ []
pieces_from (suc n) s at =
    if_lt (start_of s at) (length s)
    (if_eq (get_or s (start_of s at) 0) 10 (line (start_of s at) ∷ pieces_from n s (start_of s at + 1))
    (word (word_at s (start_of s at)) ∷ pieces_from n s (end_of s (start_of s at))))
    (line (length s) ∷ [])

-- every piece but the last takes a byte
unfoldable pub pieces_at : List ℕ → ℕ → List Piece
pieces_at s at = pieces_from (length s - at) s at

abbrev pub pieces : List ℕ → List Piece
pieces s = pieces_at s 0
