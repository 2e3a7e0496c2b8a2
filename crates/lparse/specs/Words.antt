-- The words of a text. Document 02, request 1: "parted by spaces or line ends". A space between two quotes belongs to its word, and inside
-- quotes a backslash takes the next byte along: so the grounder writes names with strings in them. A line end always ends a word.
--
--   parting x        the byte parts words: a space (32) or a line end (10)
--   ends q x         the byte does not belong to the word any more: a line end, or a space outside quotes
--   turned q x       outside quotes (34), inside them, or behind a backslash (92), after the byte
--   blanks l         how many bytes in front part words
--   span q l         how many bytes in front belong to the word
--   start_of s at     where the next word starts, from `at` on; the length where there is none
--   end_of s start    where the word that starts there ends
--   Word             the place of its first byte, and its bytes
--   words s          the words of the text, in order; words_at s at: those from `at` on
use Rattle.std.specs.Prelude.{Bool, true, false, List, [], ◌∷◌, ℕ, zero, suc, ◌+◌, ◌-◌, length, take, drop}
use Rattle.meaning.specs.Choice.{ifb, if_lt, if_eq}
use Rattle.lparse.specs.declared.word.Quote.{Quote}
use Rattle.lparse.specs.declared.word.Quote.TheVariants.{Outside, Inside, Behind}

unfoldable pub parting : ℕ → Bool
parting x = if_eq x 10 true (if_eq x 32 true false)

unfoldable pub outside : Quote → Bool
outside Outside = true
outside Inside = false
outside Behind = false

unfoldable pub ends : Quote → ℕ → Bool
ends q x = if_eq x 10 true (if_eq x 32 (outside q) false)

unfoldable pub turned : Quote → ℕ → Quote
turned Outside x = if_eq x 34 Inside Outside
turned Inside x = if_eq x 34 Outside (if_eq x 92 Behind Inside)
turned Behind x = Inside

unfoldable pub blanks : List ℕ → ℕ
blanks [] = 0
blanks (x ∷ l) = ifb (parting x) (suc (blanks l)) 0

unfoldable pub span : Quote → List ℕ → ℕ
span q [] = 0
span q (x ∷ l) = ifb (ends q x) 0 (suc (span (turned q x) l))

unfoldable pub start_of : List ℕ → ℕ → ℕ
start_of s at = at + blanks (drop at s)

unfoldable pub end_of : List ℕ → ℕ → ℕ
end_of s start = start + span Outside (drop start s)

pub record Word : Type 0 where
  pub place : ℕ
  pub bytes : List ℕ

unfoldable pub word_at : List ℕ → ℕ → Word
word_at s start = record { place = start; bytes = take (end_of s start - start) (drop start s) }

-- so many words at most, from `at` on
unfoldable pub words_from : ℕ → List ℕ → ℕ → List Word
words_from zero s at = []
words_from (suc n) s at =
    if_lt (start_of s at) (length s) (word_at s (start_of s at) ∷ words_from n s (end_of s (start_of s at))) []

-- every word takes a byte, so there are no more words than bytes
unfoldable pub words_at : List ℕ → ℕ → List Word
words_at s at = words_from (length s - at) s at

abbrev pub words : List ℕ → List Word
words s = words_at s 0
