-- What reading a text word by word hands on (src/step.rt), in the terms of specs/Reading.
--
--   known_of names            the names' places, as the arrays hold them
--   reading_of f at m s       the code's state: how reading stands, how far it is, what was made, and the state
--   note_in, known_by          the names' places with one name more, and with the name of number a
--   weighed text l r         whether a word of these bytes may stand there, in the code's terms
--   acted, worded            the code's state behind a word that may stand there, and behind any word
--   closed_by, lined_by        the rules that a line's end closes, and the code's state behind it
--   Lined ..                 a line's end was taken
--   Able count act           a name that is noted or an atom that is placed has a number below 255
--   Good s                   the rules so far are a book's; so is the open rule, if one is open
--   InText s w               the word stands in the text at its place
--   Holds text s at m d      the state is good, its names stand in the text, and its rules were made
--   Along text r draft       reading goes on, is done or was refused as the text says
use Rattle.std.specs.Prelude.{◌≡◌, Bool, true, false, List, [], ◌∷◌, ℕ, ◌+◌, ◌≤◌, ◌<◌, leb, length, get_or, set, Ok, Err}
use Prim.{Unit}
use Rattle.meaning.specs.Choice.{if_lt}
use Rattle.meaning.specs.Books.{Rule}
use Rattle.book.specs.declared.making.Making.{Making}
use Rattle.book.specs.Making.{listed, rule_by, Made, Adds}
use Rattle.book.specs.Writing.{BodyFits, Fits}
use Rattle.words.specs.declared.due.Due.{Due}
use Rattle.words.specs.declared.due.Due.TheVariants.{Line}
use Rattle.words.specs.declared.due.Ended.{Ended}
use Rattle.words.specs.declared.due.Ended.TheVariants.{Nothing as Blank, Rule as Closes, Missing}
use Rattle.words.specs.declared.known.Known.{Known}
use Rattle.words.specs.declared.opened.Open.{Open}
use Rattle.words.specs.declared.decision.Act.{Act}
use Rattle.words.specs.declared.decision.Act.TheVariants.{Nothing, Fix, Note, Stand}
use Rattle.words.specs.declared.decision.Misplaced.{Misplaced}
use Rattle.words.specs.declared.decision.Misplaced.TheVariants.{Form}
use Rattle.words.specs.declared.step.Fate.{Fate}
use Rattle.words.specs.declared.step.Fate.TheVariants.{Goes, Done, Refused}
use Rattle.words.specs.declared.step.Reading.{Reading}
use Rattle.words.specs.Words.{Word, between}
use Rattle.words.specs.Names.{no_word, place_of}
use Rattle.words.specs.Terms.{term_of}
use Rattle.words.specs.Moves.{rank, move_of, ended_of}
use Rattle.words.specs.Reading.{Decision, State, placed, decided, number, goes, wrong, follow_at, heard, book_of}
use Rattle.words.specs.Make.{filled, starts_of, ends_of}

abbrev pub known_of : List Word → Known
known_of l = record { count = length l; from = filled (starts_of l); to = filled (ends_of l) }

abbrev pub reading_of : Fate → ℕ → Making → State → Reading
reading_of f at m s = record {
  fate = f;
  at = at;
  due = s.due;
  fixed = s.fixed;
  names = known_of s.names;
  rule = s.rule;
  making = m;
}

-- ---- a word

abbrev pub note_in : Known → ℕ → ℕ → Known
note_in k from to = record { count = k.count + 1; from = set k.from k.count from; to = set k.to k.count to }

unfoldable pub known_by : Known → ℕ → ℕ → ℕ → Known
known_by k a from to = if_lt a k.count k (note_in k from to)

unfoldable pub weighed : List ℕ → List ℕ → Reading → Decision
weighed text l r =
    decided (move_of r.due (term_of l)) r.fixed r.making.rules r.names.count
    (place_of text r.names.count r.names.from r.names.to l) r.rule

-- the same with these names and this rule, behind the place `to`
abbrev pub gone_on : Reading → Due → Bool → Known → Open → ℕ → Reading
gone_on r due fixed names rule to =
    record { fate = Goes; at = to; due = due; fixed = fixed; names = names; rule = rule; making = r.making }

unfoldable pub acted : Reading → Due → Act → ℕ → ℕ → Reading
acted r due Nothing from to = gone_on r due r.fixed r.names r.rule to
acted r due Fix from to = gone_on r due true r.names r.rule to
acted r due Note from to = gone_on r due r.fixed (note_in r.names from to) r.rule to
acted r due (Stand standing a) from to =
    gone_on r due r.fixed (known_by r.names a from to) (placed standing a r.rule) to

abbrev pub halted : Reading → Fate → Reading
halted r fate = record {
  fate = fate;
  at = r.at;
  due = r.due;
  fixed = r.fixed;
  names = r.names;
  rule = r.rule;
  making = r.making;
}

unfoldable pub on_weighed : Decision → Reading → ℕ → ℕ → Reading
on_weighed (Ok (due, act)) r from to = acted r due act from to
on_weighed (Err why) r from to = halted r (Refused why from)

abbrev pub worded : List ℕ → Reading → ℕ → ℕ → Reading
worded text r from to = on_weighed (weighed text (between text from to) r) r from to

-- ---- a line's end

unfoldable pub closed_by : Ended → Open → List Rule
closed_by Blank o = []
closed_by Closes o = rule_by o.head o.pos o.neg ∷ []
closed_by Missing o = []

abbrev pub next_at : Reading → ℕ → Fate → Making → Reading
next_at r at fate m =
    record { fate = fate; at = at; due = Line; fixed = r.fixed; names = r.names; rule = r.rule; making = m }

unfoldable pub lined_by : Ended → Reading → ℕ → ℕ → Fate → Making → Reading
lined_by Blank r place at fate m = next_at r at fate m
lined_by Closes r place at fate m = next_at r at fate m
lined_by Missing r place at fate m = halted r (Refused Form place)

-- the line's end at `place` was taken, which made `after` of the draft
pub record Lined (r : Reading) (place at : ℕ) (fate : Fate) (before : List ℕ) (n : Reading) (after : List ℕ) : Type 0 where
  pub making : Making
  pub adds : Adds (closed_by (ended_of r.due) r.rule) r.making before making after
  pub next : n ≡ lined_by (ended_of r.due) r place at fate making

-- ---- what holds on the way

-- reading is not over
unfoldable pub goes_on : Fate → Bool
goes_on Goes = true
goes_on Done = false
goes_on (Refused why place) = false

unfoldable pub Able : ℕ → Act → Type 0
Able count Nothing = Unit {0}
Able count Fix = Unit {0}
Able count Note = count < 255
Able count (Stand standing a) = a < 255

-- a rule is open from its head to the line's end
abbrev pub is_open : Due → Bool
is_open due = leb 3 (rank due)

pub record Good (s : State) : Type 0 where
  pub book : Fits (book_of s)
  pub pos-long : length s.rule.pos ≡ 255
  pub neg-long : length s.rule.neg ≡ 255
  pub pos : BodyFits (length s.names) (listed s.rule.pos)
  pub neg : BodyFits (length s.names) (listed s.rule.neg)
  pub head : is_open s.due ≡ true → s.rule.head.0 < length s.names
  pub few : is_open s.due ≡ true → length s.rules < 255

pub record InText (text : List ℕ) (w : Word) : Type 0 where
  pub inside : w.place + length w.bytes ≤ length text
  pub same : w.bytes ≡ between text w.place (w.place + length w.bytes)

pub record Holds (text : List ℕ) (s : State) (at : ℕ) (m : Making) (draft : List ℕ) : Type 0 where
  pub inside : at ≤ length text
  pub good : Good s
  pub spelled : (i : ℕ) → i < length s.names → InText text (get_or s.names i no_word)
  pub made : Made s.rules m draft

pub data Along (text : List ℕ) (r : Reading) (draft : List ℕ) : Type 0 where
  going : (s : State) → r ≡ reading_of Goes r.at r.making s → Holds text s r.at r.making draft
      → follow_at text r.at s ≡ heard text → Along text r draft
  whole : (s : State) → r ≡ reading_of Done r.at r.making s → Holds text s r.at r.making draft
      → goes s ≡ heard text → Along text r draft
  barred : (why : Misplaced) (place : ℕ) → r.fate ≡ Refused why place → wrong (number why) place ≡ heard text → Along text r draft
