-- When a text is refused, by what is written. Document 02, request 1: "Refusals: 30 text not in the format or 31 another rule type, whichever
-- stands first in the text, the place being the first byte of that number or word, or the length if text is missing; then 32, no place, the
-- result doesn't fit a book or the buffer lent." Request 10: "31 no longer for type 3".
--
--   Begins ws            some words behind these make a text of the format
--   RuleWords ws         the words are whole rules
--   OtherType ws w       behind these words a rule's type is due, and w is a number other than 0, 1 and 3
--   WordAt s at ws w     w is the word of the text at this place, and ws are those before it
--   AnotherType s at     31: another rule type stands there
--   WrongWord s at       30: the words before are the beginning of a text, but not with this one, which is no rule type
--   Missing s at         30: all words are the beginning of a text, but no text
--   TooLarge s out       32: the text is in the format, but its book doesn't fit the limits or the buffer
--   Fitting s out n      the text is in the format, and its book, of n bytes, fits both
use Rattle.std.specs.Prelude.{◌≡◌, ◌⊎◌, true, false, List, [], ◌∷◌, ◌++◌, ℕ, ◌<◌, ◌≤◌, length, Some}
use Rattle.meaning.specs.Sets.{every}
use Rattle.book.specs.Writing.{bytes_of_book}
use Rattle.imported.specs.Text.{TextRule}
use Rattle.imported.specs.Making.{rules_atoms, made_book, fits_in}
use Rattle.lparse.specs.Words.{Word, words}
use Rattle.lparse.specs.Reading.{number_in}
use Rattle.lparse.specs.Says.{Written, rules_tokens, Spelling, from_one, headed, text_said, SaysWords, Says}

abbrev pub Begins : List Word → Type 0
Begins ws = (more : List Word) × (t : Written) × SaysWords (ws ++ more) t

pub record RuleWords (ws : List Word) : Type 0 where
  pub rules : List TextRule
  pub spelled : Spelling ws (rules_tokens rules)
  pub atoms : every from_one (rules_atoms rules) ≡ true
  pub heads : every headed rules ≡ true

pub record OtherType (ws : List Word) (w : Word) : Type 0 where
  pub behind : RuleWords ws
  pub number : ℕ
  pub read : number_in w.bytes ≡ Some number
  pub not-closing : number ≡ 0 → ⊥
  pub not-basic : number ≡ 1 → ⊥
  pub not-choice : number ≡ 3 → ⊥

pub record WordAt (s : List ℕ) (at : ℕ) (before : List Word) (w : Word) : Type 0 where
  pub after : List Word
  pub parted : words s ≡ before ++ (w ∷ after)
  pub place : at ≡ w.place

pub record AnotherType (s : List ℕ) (at : ℕ) : Type 0 where
  pub before : List Word
  pub word : Word
  pub stands : WordAt s at before word
  pub other : OtherType before word

pub record WrongWord (s : List ℕ) (at : ℕ) : Type 0 where
  pub before : List Word
  pub word : Word
  pub stands : WordAt s at before word
  pub begins : Begins before
  pub no-beginning : ¬ Begins (before ++ (word ∷ []))
  pub no-type : ¬ OtherType before word

pub record Missing (s : List ℕ) (at : ℕ) : Type 0 where
  pub place : at ≡ length s
  pub begins : Begins (words s)
  pub no_text : (t : Written) → ¬ Says s t

abbrev pub NotInFormat : List ℕ → ℕ → Type 0
NotInFormat s at = WrongWord s at ⊎ Missing s at

pub record TooLarge (s out : List ℕ) : Type 0 where
  pub text : Written
  pub says : Says s text
  pub large : (fits_in (made_book (text_said text)) ≡ false) ⊎ (length out < length (bytes_of_book (made_book (text_said text))))

pub record Fitting (s out : List ℕ) (n : ℕ) : Type 0 where
  pub text : Written
  pub says : Says s text
  pub fits : fits_in (made_book (text_said text)) ≡ true
  pub size : n ≡ length (bytes_of_book (made_book (text_said text)))
  pub room : n ≤ length out
