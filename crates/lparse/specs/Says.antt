-- What a text of the format consists of, by what is written: the words of the text are, one by one, these tokens. Document 02, request 1:
-- "basic rules (type 1: head, number of literals, number of negatives, negatives, positives), the closing 0, the symbol table, the B+ and
-- B- lists and the number of models, which is read and not used. Atoms there start at 1." Request 10: "type 3: number of heads (0 is 30),
-- the heads, then the body as in type 1". That Reading says the same is proved.
--
--   Written          rules, the symbol table with its names, B+ and B-
--   Token            a number, a name, or exactly these bytes
--   tokens_of w m     the tokens of a text that says w, with m for the number of models
--   Spelled, Spelling    a word is a token; the words are the tokens
--   SaysWords ws w, Says s w     the words, the bytes are a text that says w
use Rattle.std.specs.Prelude.{◌≡◌, Bool, true, false, List, [], ◌∷◌, ◌++◌, map, ℕ, ◌+◌, ltb, length, Some}
use Rattle.meaning.specs.Sets.{every}
use Rattle.imported.specs.declared.TextAtom.{TextAtom}
use Rattle.imported.specs.Text.{TextAtoms, TextRule, basic, choice, Text}
use Rattle.imported.specs.Making.{mentioned}
use Rattle.lparse.specs.Words.{Word, words}
use Rattle.lparse.specs.Reading.{number_in, Entry}

pub record Written : Type 0 where
  pub rules : List TextRule
  pub table : List Entry
  pub plus : List TextAtom
  pub minus : List TextAtom

pub data Token : Type 0 where
  number : ℕ → Token
  name : Word → Token
  exactly : List ℕ → Token

unfoldable pub atom_tokens : List TextAtom → List Token
atom_tokens [] = []
atom_tokens (a ∷ l) = number a.0 ∷ atom_tokens l

-- the body is written in the same way in both types
unfoldable pub literal_tokens : List TextAtom → List TextAtom → List Token
literal_tokens pos neg = number (length neg + length pos) ∷ (number (length neg) ∷ (atom_tokens neg ++ atom_tokens pos))

unfoldable pub rule_tokens : TextRule → List Token
rule_tokens (basic h pos neg) = number 1 ∷ (number h.0 ∷ literal_tokens pos neg)
rule_tokens (choice hs pos neg) = number 3 ∷ (number (length hs) ∷ (atom_tokens hs ++ literal_tokens pos neg))

unfoldable pub rules_tokens : List TextRule → List Token
rules_tokens [] = []
rules_tokens (r ∷ l) = rule_tokens r ++ rules_tokens l

unfoldable pub table_tokens : List Entry → List Token
table_tokens [] = []
table_tokens (e ∷ l) = number e.atom.0 ∷ (name e.name ∷ table_tokens l)

-- a list of atoms ends with 0; B is 66, + is 43, - is 45
unfoldable pub minus_tokens : List TextAtom → ℕ → List Token
minus_tokens minus m = atom_tokens minus ++ (number 0 ∷ (number m ∷ []))

unfoldable pub plus_tokens : List TextAtom → List TextAtom → ℕ → List Token
plus_tokens plus minus m = atom_tokens plus ++ (number 0 ∷ (exactly (66 ∷ (45 ∷ [])) ∷ minus_tokens minus m))

unfoldable pub behind_rules : List Entry → List TextAtom → List TextAtom → ℕ → List Token
behind_rules table plus minus m = table_tokens table ++ (number 0 ∷ (exactly (66 ∷ (43 ∷ [])) ∷ plus_tokens plus minus m))

unfoldable pub tokens_of : Written → ℕ → List Token
tokens_of w m = rules_tokens w.rules ++ (number 0 ∷ behind_rules w.table w.plus w.minus m)

pub data Spelled : Word → Token → Type 0 where
  as_number : {w : Word} {n : ℕ} → number_in w.bytes ≡ Some n → Spelled w (number n)
  as-name : {w : Word} → Spelled w (name w)
  as_bytes : {w : Word} {l : List ℕ} → w.bytes ≡ l → Spelled w (exactly l)

pub data Spelling : List Word → List Token → Type 0 where
  none : Spelling [] []
  more : {w : Word} {t : Token} {ws : List Word} {ts : List Token} → Spelled w t → Spelling ws ts → Spelling (w ∷ ws) (t ∷ ts)

-- "Atoms there start at 1."
unfoldable pub from_one : TextAtoms
from_one a = ltb 0 a.0

-- "number of heads (0 is 30)"
unfoldable pub headed : TextRule → Bool
headed (basic h pos neg) = true
headed (choice [] pos neg) = false
headed (choice (h ∷ hs) pos neg) = true

abbrev pub text_said : Written → Text
text_said w = record { rules = w.rules; table = map (λ e. e.atom) w.table; plus = w.plus; minus = w.minus }

pub record SaysWords (ws : List Word) (w : Written) : Type 0 where
  pub models : ℕ
  pub spelled : Spelling ws (tokens_of w models)
  pub atoms : every from_one (mentioned (text_said w)) ≡ true
  pub heads : every headed w.rules ≡ true

abbrev pub Says : List ℕ → Written → Type 0
Says s w = SaysWords (words s) w
