-- When a text is refused, by what is written. "40: a word that cannot stand there (also: no name, an `atoms:` line behind a rule), its first
-- byte; where a word is missing, the line's end. 41: with an `atoms:` line: a name that is not listed; in it: a name listed twice. 42: the 256th
-- name, the 256th rule, the 17th different atom in a part. 43: buffer too short for the book." "The first such word decides."
--
--   Comes text p s       what stands before the word or line's end p can go on, and comes to the state s
--   moves_to s w          what a word does where it stands, by its kind alone
--   Has names l          one of the names has these bytes
--   Allowed s w          the name may be used: there is no list, or it is listed
--   Seventeenth part a   the part has 16 atoms, and a is none of them
--   WrongForm s w        the word cannot stand there
--   WrongName s w        the name is not listed, or listed twice
--   OneTooMany s w       the name, the rule or the atom is one too many
--   WrongAt text i at    row i of the table, 40 to 42, holds of the text at the place `at`: what stands before it can go on, and with it can't
--   TooLong text out     43: the text is read, and the buffer is too short for its book
use Rattle.std.specs.Prelude.{◌≡◌, ◌⊎◌, Bool, false, List, ◌∷◌, ◌++◌, ℕ, ◌<◌, ◌≤◌, length, get_or, Some, None}
use Rattle.meaning.specs.Books.{Rule, Book}
use Rattle.book.specs.Making.{listed}
use Rattle.book.specs.Writing.{bytes_of_book}
use Rattle.words.specs.declared.due.Due.{Due}
use Rattle.words.specs.declared.due.Standing.{Standing}
use Rattle.words.specs.declared.due.Standing.TheVariants.{Head, Positive, Negative}
use Rattle.words.specs.declared.due.Said.TheVariants.{Lists, Listed, Atom}
use Rattle.words.specs.declared.due.Ended.TheVariants.{Missing}
use Rattle.words.specs.Words.{Word, Piece, word, line, pieces}
use Rattle.words.specs.Names.{no_word, number_in}
use Rattle.words.specs.Terms.{term_of}
use Rattle.words.specs.Moves.{Move, move_of, ended_of}
use Rattle.words.specs.Reading.{State, goes, follow, start, says, words_in}

pub record Comes (text : List ℕ) (here : Piece) (state : State) : Type 0 where
  pub before : List Piece
  pub behind : List Piece
  pub split : pieces text ≡ before ++ (here ∷ behind)
  pub goes_on : follow before start ≡ goes state

abbrev pub moves_to : State → Word → Move
moves_to s w = move_of s.due (term_of w.bytes)

abbrev pub Has : List Word → List ℕ → Type 0
Has names l = (i : ℕ) × (i < length names) × ((get_or names i no_word).bytes ≡ l)

abbrev pub Allowed : State → Word → Type 0
Allowed s w = (s.fixed ≡ false) ⊎ Has s.names w.bytes

pub record Seventeenth (part : List Bool) (a : ℕ) : Type 0 where
  pub new : get_or part a false ≡ false
  pub sixteen : 16 ≤ length (listed part)

pub data WrongForm (s : State) (w : Word) : Type 0 where
  no_place : moves_to s w ≡ None → WrongForm s w
  list-behind-rule : {next : Due} → moves_to s w ≡ Some (next, Lists) → 0 < length s.rules → WrongForm s w

pub data WrongName (s : State) (w : Word) : Type 0 where
  unlisted : {next : Due} {standing : Standing} → moves_to s w ≡ Some (next, (Atom standing)) → (Allowed s w → ⊥) → WrongName s w
  listed-twice : {next : Due} → moves_to s w ≡ Some (next, Listed) → Has s.names w.bytes → WrongName s w

-- a new name would get the next number, so that `number_in` is its number too
pub data OneTooMany (s : State) (w : Word) : Type 0 where
  listed-name : {next : Due} → moves_to s w ≡ Some (next, Listed) → (Has s.names w.bytes → ⊥) → 255 ≤ length s.names → OneTooMany s w
  new-name : {next : Due} {standing : Standing} → moves_to s w ≡ Some (next, (Atom standing)) → s.fixed ≡ false
      → (Has s.names w.bytes → ⊥) → 255 ≤ length s.names → OneTooMany s w
  rule : {next : Due} → moves_to s w ≡ Some (next, (Atom Head)) → Allowed s w → 255 ≤ length s.rules → OneTooMany s w
  positive : {next : Due} → moves_to s w ≡ Some (next, (Atom Positive)) → Allowed s w
      → Seventeenth s.rule.pos (number_in s.names w.bytes) → OneTooMany s w
  negative : {next : Due} → moves_to s w ≡ Some (next, (Atom Negative)) → Allowed s w
      → Seventeenth s.rule.neg (number_in s.names w.bytes) → OneTooMany s w

pub data WrongAt (text : List ℕ) : ℕ → ℕ → Type 0 where
  form : {w : Word} {s : State} → Comes text (word w) s → WrongForm s w → WrongAt text 40 w.place
  missing : {at : ℕ} {s : State} → Comes text (line at) s → ended_of s.due ≡ Missing → WrongAt text 40 at
  name : {w : Word} {s : State} → Comes text (word w) s → WrongName s w → WrongAt text 41 w.place
  many : {w : Word} {s : State} → Comes text (word w) s → OneTooMany s w → WrongAt text 42 w.place

-- the book of what a text says
abbrev pub book_said : List (List ℕ) → List Rule → Book
book_said names rules = record { atoms = length names; rules = rules }

pub record TooLong (text out : List ℕ) : Type 0 where
  pub names : List (List ℕ)
  pub rules : List Rule
  pub read : words_in text ≡ says names rules
  pub short : length out < length (bytes_of_book (book_said names rules))
