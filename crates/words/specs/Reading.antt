-- What the words of a text say, one after the other. "The first such word decides (one pass, left to right)."
--
--   State                what is due, whether names are listed, the names and rules so far, and the rule that is open
--   full, placed         an atom has no place in the open rule any more; the rule with the atom in its place
--   Decision             what is due behind a word and what is done with it; or why it may not stand there
--   decided ..           whether a word may stand where it stands, and what is done with it; or 40, 41 or 42
--   decision_of l s       the same of a word with these bytes
--   done due act w s     the state behind the word
--   number why           the number of a refusal
--   on_piece p s          what a word or a line's end makes of the state
--   follow ps s          the same of one after the other
--   heard s              what the text says; or the number and the place of the first word that cannot stand
--   words_in s            the same, of names by their bytes: names and rules
use Rattle.std.specs.Prelude.{Bool, true, false, List, [], ◌∷◌, ◌++◌, map, ℕ, leb, length, get_or, set, replicate, Some, None, Result, Ok, Err}
use Rattle.meaning.specs.Choice.{ifb, if_lt, if_eq}
use Rattle.meaning.specs.Books.{atom_no, Rule, Book}
use Rattle.book.specs.Making.{listed, rule_by}
use Rattle.words.specs.declared.due.Due.{Due}
use Rattle.words.specs.declared.due.Due.TheVariants.{Line}
use Rattle.words.specs.declared.due.Standing.{Standing}
use Rattle.words.specs.declared.due.Standing.TheVariants.{Head, Positive, Negative}
use Rattle.words.specs.declared.due.Said.{Said}
use Rattle.words.specs.declared.due.Said.TheVariants.{Nothing as Silent, Lists, Listed, Atom}
use Rattle.words.specs.declared.due.Ended.{Ended}
use Rattle.words.specs.declared.due.Ended.TheVariants.{Nothing as Blank, Rule as Closes, Missing}
use Rattle.words.specs.declared.opened.Open.{Open}
use Rattle.words.specs.declared.decision.Act.{Act}
use Rattle.words.specs.declared.decision.Act.TheVariants.{Nothing, Fix, Note, Stand}
use Rattle.words.specs.declared.decision.Misplaced.{Misplaced}
use Rattle.words.specs.declared.decision.Misplaced.TheVariants.{Form, Name, TooMany}
use Rattle.words.specs.Words.{Word, Piece, word, line, pieces_at}
use Rattle.words.specs.Names.{number_in}
use Rattle.words.specs.Terms.{term_of}
use Rattle.words.specs.Moves.{Move, move_of, ended_of}

pub record State : Type 0 where
  pub due : Due
  pub fixed : Bool
  pub names : List Word
  pub rules : List Rule
  pub rule : Open

-- ---- the rule that is open: "Equal atoms in a part become one; at most 16 different ones in each part", at most 255 rules

abbrev pub no_atoms : List Bool
no_atoms = replicate 255 false

unfoldable pub placed : Standing → ℕ → Open → Open
placed Head a o = record { head = atom_no a; pos = no_atoms; neg = no_atoms }
placed Positive a o = record { head = o.head; pos = set o.pos a true; neg = o.neg }
placed Negative a o = record { head = o.head; pos = o.pos; neg = set o.neg a true }

-- the atom would be the 17th
unfoldable pub crowded : List Bool → ℕ → Bool
crowded t a = ifb (get_or t a false) false (leb 16 (length (listed t)))

unfoldable pub full : Standing → ℕ → ℕ → Open → Bool
full Head rules a o = leb 255 rules
full Positive rules a o = crowded o.pos a
full Negative rules a o = crowded o.neg a

-- ---- whether a word may stand where it stands: `a` is its number among the names, or how many names there are

-- what is due behind the word, and what is done; or why it may not stand there
abbrev pub Decision : Type 0
Decision = Result (Due × Act) Misplaced

unfoldable pub stands : Standing → Due → ℕ → ℕ → Open → Decision
stands standing due rules a rule = ifb (full standing rules a rule) (Err TooMany) (Ok (due, (Stand standing a)))

-- "no other name may be used"; "the 256th name"
unfoldable pub named : Bool → ℕ → ℕ → Decision → Decision
named fixed count a d = if_lt a count d (ifb fixed (Err Name) (if_lt count 255 d (Err TooMany)))

-- "a name listed twice"
unfoldable pub noted : Due → ℕ → ℕ → Decision
noted due count a = if_lt a count (Err Name) (if_lt count 255 (Ok (due, Note)) (Err TooMany))

-- "an `atoms:` line behind a rule"
unfoldable pub begun : Due → ℕ → Decision
begun due rules = if_eq rules 0 (Ok (due, Fix)) (Err Form)

unfoldable pub on_said : Said → Due → Bool → ℕ → ℕ → ℕ → Open → Decision
on_said Silent due fixed rules count a rule = Ok (due, Nothing)
on_said Lists due fixed rules count a rule = begun due rules
on_said Listed due fixed rules count a rule = noted due count a
on_said (Atom standing) due fixed rules count a rule = named fixed count a (stands standing due rules a rule)

unfoldable pub decided : Move → Bool → ℕ → ℕ → ℕ → Open → Decision
decided (Some (due, said)) fixed rules count a rule = on_said said due fixed rules count a rule
decided None fixed rules count a rule = Err Form

-- ---- what a word or a line's end makes of the state

-- a new name gets the next number
unfoldable pub known : List Word → ℕ → Word → List Word
known names a w = if_lt a (length names) names (names ++ (w ∷ []))

unfoldable pub done : Due → Act → Word → State → State
done due Nothing w s = record { due = due; fixed = s.fixed; names = s.names; rules = s.rules; rule = s.rule }
done due Fix w s = record { due = due; fixed = true; names = s.names; rules = s.rules; rule = s.rule }
done due Note w s = record { due = due; fixed = s.fixed; names = s.names ++ (w ∷ []); rules = s.rules; rule = s.rule }
done due (Stand standing a) w s =
    record { due = due; fixed = s.fixed; names = known s.names a w; rules = s.rules; rule = placed standing a s.rule }

-- the number of a refusal
abbrev pub number : Misplaced → ℕ
number Form = 40
number Name = 41
number TooMany = 42

pub data Outcome : Type 0 where
  goes : State → Outcome
  wrong : ℕ → ℕ → Outcome

unfoldable pub on_decision : Decision → Word → State → Outcome
on_decision (Ok (due, act)) w s = goes (done due act w s)
on_decision (Err why) w s = wrong (number why) w.place

unfoldable pub decision_of : List ℕ → State → Decision
decision_of l s =
    decided (move_of s.due (term_of l)) s.fixed (length s.rules) (length s.names) (number_in s.names l) s.rule

-- the next line, with these rules
abbrev pub next_line : List Rule → State → State
next_line rules s = record { due = Line; fixed = s.fixed; names = s.names; rules = rules; rule = s.rule }

abbrev pub open_rule : State → Rule
open_rule s = rule_by s.rule.head s.rule.pos s.rule.neg

-- "where a word is missing, the line's end"
unfoldable pub on_ended : Ended → ℕ → State → Outcome
on_ended Blank place s = goes (next_line s.rules s)
on_ended Closes place s = goes (next_line (s.rules ++ (open_rule s ∷ [])) s)
on_ended Missing place s = wrong 40 place

unfoldable pub on_piece : Piece → State → Outcome
on_piece (word w) s = on_decision (decision_of w.bytes s) w s
on_piece (line place) s = on_ended (ended_of s.due) place s

unfoldable pub and_then : Outcome → (State → Outcome) → Outcome
and_then (goes s) f = f s
and_then (wrong i place) f = wrong i place

unfoldable pub follow : List Piece → State → Outcome
follow [] s = goes s
follow (p ∷ ps) s = and_then (on_piece p s) (follow ps)

-- ---- a whole text

abbrev pub start : State
start = record {
  due = Line;
  fixed = false;
  names = [];
  rules = [];
  rule = record { head = atom_no 0; pos = no_atoms; neg = no_atoms };
}

unfoldable pub follow_at : List ℕ → ℕ → State → Outcome
follow_at s at state = follow (pieces_at s at) state

abbrev pub heard : List ℕ → Outcome
heard s = follow_at s 0 start

abbrev pub book_of : State → Book
book_of s = record { atoms = length s.names; rules = s.rules }

-- names by their bytes, and rules
pub data Says : Type 0 where
  says : List (List ℕ) → List Rule → Says
  refused : ℕ → ℕ → Says

abbrev pub names_of : List Word → List (List ℕ)
names_of l = map (λ w. w.bytes) l

unfoldable pub said : Outcome → Says
said (goes s) = says (names_of s.names) s.rules
said (wrong i place) = refused i place

abbrev pub words_in : List ℕ → Says
words_in s = said (heard s)
