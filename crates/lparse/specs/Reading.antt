-- The format as a function: what is due, and what each word does there. Document 02, request 1: "basic rules (type 1: head, number of
-- literals, number of negatives, negatives, positives), the closing 0, the symbol table, the B+ and B- lists and the number of models".
-- Request 10: "type 3: number of heads (0 is 30), the heads, then the body as in type 1".
--
--   Move                 what is due behind a word and what it says; or why it cannot stand there
--   Step                 the word that was taken, or none at the end of the text; or why none was taken
--   body_of m p           what is due where m negatives and p positives are left
--   heads_of n            what is due where n heads of a choice are left
--   on_number role n      what a number does where it is due: a row of the format for each role
--   move_of due l         what a word of these bytes does
--   step_at s at due      what the next word of s does, from `at` on, in the code's terms
--   Part                 what the rest of a text says: the atoms of the rule that is open (heads only of a choice), and what comes behind it
--   with w said p        what one word more in front says
--   heard len due ws     what the words say; or the first of them that cannot stand there, with its number
--   heard_at s at due     the same of the words of s from `at` on
use Rattle.std.specs.Prelude.{Bool, true, false, List, [], ◌∷◌, ℕ, ◌-◌, eqb, length, get_or, Option, Some, None, Result, Ok, Err}
use Rattle.meaning.specs.Choice.{ifb, if_lt, if_eq}
use Rattle.decimal.specs.Digits.{value_from}
use Rattle.imported.specs.declared.TextAtom.{TextAtom}
use Rattle.imported.specs.Text.{TextRule, basic, choice}
use Rattle.lparse.specs.declared.due.Role.{Role}
use Rattle.lparse.specs.declared.due.Role.TheVariants.{Kind, Head, HeadCount, Heads, Literals, Negatives, Negative, Positive, Table, Plus, Minus, Models}
use Rattle.lparse.specs.declared.due.Due.{Due}
use Rattle.lparse.specs.declared.due.Due.TheVariants.{Number, Name, PlusWord, MinusWord, End}
use Rattle.lparse.specs.declared.due.Standing.{Standing}
use Rattle.lparse.specs.declared.due.Standing.TheVariants.{Head as InHead, Free as InFree, Negative as InNegative, Positive as InPositive, Table as InTable, Plus as InPlus, Minus as InMinus}
use Rattle.lparse.specs.declared.due.Said.{Said}
use Rattle.lparse.specs.declared.due.Said.TheVariants.{Nothing as Silent, Choice as Chooses, Atom}
use Rattle.lparse.specs.declared.due.Misplaced.{Misplaced}
use Rattle.lparse.specs.declared.due.Misplaced.TheVariants.{Format, Kind as OtherKind}
use Rattle.lparse.specs.declared.step.Taken.{Taken}
use Rattle.lparse.specs.declared.step.Unread.{Unread}
use Rattle.lparse.specs.declared.step.Unread.TheVariants.{Format as WrongFormat, Kind as WrongKind}
use Rattle.lparse.specs.Words.{start_of, end_of, Word, word_at, words_at}

-- ---- what a word does

-- what is due behind it and what it says; or why it cannot stand there
abbrev pub Move : Type 0
Move = Result (Due × Said) Misplaced

abbrev pub text_atom : ℕ → TextAtom
text_atom n = record { 0 = n }

unfoldable pub body_of : ℕ → ℕ → Role
body_of m p = if_eq m 0 (if_eq p 0 Kind (Positive (p - 1))) (Negative (m - 1) p)

unfoldable pub heads_of : ℕ → Role
heads_of n = if_eq n 0 Literals (Heads (n - 1))

-- 31 is for a number other than 0, 1 and 3 where a rule's type is due
unfoldable pub on_kind : ℕ → Move
on_kind n =
    if_eq n 0 (Ok (Number Table, Silent))
    (if_eq n 1 (Ok (Number Head, Silent)) (if_eq n 3 (Ok (Number HeadCount, Chooses)) (Err OtherKind)))

-- an atom of a rule is not 0
unfoldable pub on_atom : ℕ → Role → Standing → Move
on_atom n next standing = if_eq n 0 (Err Format) (Ok (Number next, (Atom (text_atom n) standing)))

-- in the table and the lists 0 is the end
unfoldable pub on_listed : ℕ → Due → Due → Said → Move
on_listed n end next said = if_eq n 0 (Ok (end, Silent)) (Ok (next, said))

-- "number of heads (0 is 30)"
unfoldable pub on_head_count : ℕ → Move
on_head_count n = if_eq n 0 (Err Format) (Ok ((Number (heads_of n)), Silent))

unfoldable pub on_negatives : ℕ → ℕ → Move
on_negatives n literals = if_lt literals n (Err Format) (Ok ((Number (body_of n (literals - n))), Silent))

unfoldable pub on_number : Role → ℕ → Move
on_number Kind n = on_kind n
on_number Head n = on_atom n Literals InHead
on_number HeadCount n = on_head_count n
on_number (Heads left) n = on_atom n (heads_of left) InFree
on_number Literals n = Ok ((Number (Negatives n)), Silent)
on_number (Negatives literals) n = on_negatives n literals
on_number (Negative m p) n = on_atom n (body_of m p) InNegative
on_number (Positive p) n = on_atom n (body_of 0 p) InPositive
on_number Table n = on_listed n PlusWord (Name (text_atom n)) Silent
on_number Plus n = on_listed n MinusWord (Number Plus) (Atom (text_atom n) InPlus)
on_number Minus n = on_listed n (Number Models) (Number Minus) (Atom (text_atom n) InMinus)
on_number Models n = Ok (End, Silent)

-- "Numbers go to 4,294,967,295"
abbrev pub number_in : List ℕ → Option ℕ
number_in l = value_from 4294967295 0 l

unfoldable pub on_value : Role → Option ℕ → Move
on_value role (Some n) = on_number role n
on_value role None = Err Format

abbrev pub on_digits : Role → List ℕ → Move
on_digits role l = on_value role (number_in l)

-- the words B+ and B-: B is 66, + is 43, - is 45
unfoldable pub signed : List ℕ → ℕ → Bool
signed l sign = if_eq (length l) 2 (if_eq (get_or l 0 0) 66 (eqb (get_or l 1 0) sign) false) false

unfoldable pub on_sign : List ℕ → ℕ → Role → Move
on_sign l sign next = ifb (signed l sign) (Ok (Number next, Silent)) (Err Format)

unfoldable pub move_of : Due → List ℕ → Move
move_of (Number role) l = on_digits role l
move_of (Name a) l = Ok ((Number Table), (Atom a InTable))
move_of PlusWord l = on_sign l 43 Plus
move_of MinusWord l = on_sign l 45 Minus
move_of End l = Err Format

-- the text may end where this is due
unfoldable pub whole : Due → Bool
whole (Number role) = false
whole (Name a) = false
whole PlusWord = false
whole MinusWord = false
whole End = true

-- ---- the same in the code's terms

-- the word that was taken, or none at the end of the text; or why none was taken
abbrev pub Step : Type 0
Step = Result (Option Taken) Unread

unfoldable pub at_end : Due → ℕ → Step
at_end due len = ifb (whole due) (Ok None) (Err (WrongFormat len))

unfoldable pub step_of : Move → ℕ → ℕ → Step
step_of (Ok (due, said)) from end = Ok (Some (record { next = due; said = said; from = from; end = end }))
step_of (Err Format) from end = Err (WrongFormat from)
step_of (Err OtherKind) from end = Err (WrongKind from)

unfoldable pub step_at : List ℕ → ℕ → Due → Step
step_at s at due =
    if_lt (start_of s at) (length s)
    (step_of (move_of due (word_at s (start_of s at)).bytes) (start_of s at) (end_of s (start_of s at)))
    (at_end due (length s))

-- ---- what the words of a text say

-- an entry of the symbol table
pub record Entry : Type 0 where
  pub atom : TextAtom
  pub name : Word

pub record Part : Type 0 where
  pub heads : List TextAtom
  pub pos : List TextAtom
  pub neg : List TextAtom
  pub rules : List TextRule
  pub table : List Entry
  pub plus : List TextAtom
  pub minus : List TextAtom

abbrev pub nothing_more : Part
nothing_more = record { heads = []; pos = []; neg = []; rules = []; table = []; plus = []; minus = [] }

-- a head takes the atoms behind it as its body
unfoldable pub with_atom : Word → TextAtom → Standing → Part → Part
with_atom w a InHead p = record {
  heads = [];
  pos = [];
  neg = [];
  rules = basic a p.pos p.neg ∷ p.rules;
  table = p.table;
  plus = p.plus;
  minus = p.minus;
}
with_atom w a InFree p = record {
  heads = a ∷ p.heads;
  pos = p.pos;
  neg = p.neg;
  rules = p.rules;
  table = p.table;
  plus = p.plus;
  minus = p.minus;
}
with_atom w a InNegative p = record {
  heads = p.heads;
  pos = p.pos;
  neg = a ∷ p.neg;
  rules = p.rules;
  table = p.table;
  plus = p.plus;
  minus = p.minus;
}
with_atom w a InPositive p = record {
  heads = p.heads;
  pos = a ∷ p.pos;
  neg = p.neg;
  rules = p.rules;
  table = p.table;
  plus = p.plus;
  minus = p.minus;
}
with_atom w a InTable p = record {
  heads = p.heads;
  pos = p.pos;
  neg = p.neg;
  rules = p.rules;
  table = record { atom = a; name = w } ∷ p.table;
  plus = p.plus;
  minus = p.minus;
}
with_atom w a InPlus p = record {
  heads = p.heads;
  pos = p.pos;
  neg = p.neg;
  rules = p.rules;
  table = p.table;
  plus = a ∷ p.plus;
  minus = p.minus;
}
with_atom w a InMinus p = record {
  heads = p.heads;
  pos = p.pos;
  neg = p.neg;
  rules = p.rules;
  table = p.table;
  plus = p.plus;
  minus = a ∷ p.minus;
}

-- a choice takes the heads and the atoms behind them
unfoldable pub with_choice : Part → Part
with_choice p = record {
  heads = [];
  pos = [];
  neg = [];
  rules = choice p.heads p.pos p.neg ∷ p.rules;
  table = p.table;
  plus = p.plus;
  minus = p.minus;
}

unfoldable pub with : Word → Said → Part → Part
with w Silent p = p
with w Chooses p = with_choice p
with w (Atom a standing) p = with_atom w a standing p

pub data Heard : Type 0 where
  says : Part → Heard
  wrong : ℕ → ℕ → Heard

unfoldable pub adding : Word → Said → Heard → Heard
adding w said (says p) = says (with w said p)
adding w said (wrong i at) = wrong i at

unfoldable pub on_move : Move → Word → (Due → Heard) → Heard
on_move (Ok (due, said)) w rest = adding w said (rest due)
on_move (Err Format) w rest = wrong 30 w.place
on_move (Err OtherKind) w rest = wrong 31 w.place

unfoldable pub heard : ℕ → Due → List Word → Heard
heard len due [] = ifb (whole due) (says nothing_more) (wrong 30 len)
heard len due (w ∷ ws) = on_move (move_of due w.bytes) w (λ next. heard len next ws)

unfoldable pub heard_at : List ℕ → ℕ → Due → Heard
heard_at s at due = heard (length s) due (words_at s at)
