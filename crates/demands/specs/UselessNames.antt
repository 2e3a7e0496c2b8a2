-- Two useless makers of books in words, which the sentences over names must refuse, and the texts at which they show it.
--
--   backwards        numbers the names from the last one on; the places of the names are told as ours are
--   takes_first       takes a name that is listed again for one more name, and the first of the two for a word that is both
use Rattle.std.specs.Prelude.{List, [], ◌∷◌, map, reverse, ℕ, ◌-◌, length, Ok, Err}
use Rattle.meaning.specs.declared.AtomNo.{AtomNo}
use Rattle.meaning.specs.Books.{atom_no, Rule}
use Rattle.meaning.specs.Choice.{ifb}
use Rattle.words.specs.declared.due.Due.{Due}
use Rattle.words.specs.declared.due.Due.TheVariants.{Listing}
use Rattle.words.specs.declared.decision.Act.TheVariants.{Note}
use Rattle.words.specs.declared.decision.Misplaced.TheVariants.{Form, Name, TooMany}
use Rattle.words.specs.Words.{Piece, word, line, pieces}
use Rattle.words.specs.Moves.{is_due, ended_of}
use Rattle.words.specs.Reading.{State, Decision, Outcome, goes, wrong, on_decision, decision_of, on_ended, and_then, heard, start}
use Rattle.words.specs.Make.{make_heard}
use Rattle.demands.specs.DemandNames.{Maker}

-- ---- the last name is atom 0

abbrev pub turned : ℕ → AtomNo → AtomNo
turned n a = atom_no (n - 1 - a.0)

abbrev pub turned_rule : ℕ → Rule → Rule
turned_rule n r = record {
  head = turned n r.head;
  pos = reverse (map (turned n) r.pos);
  neg = reverse (map (turned n) r.neg);
}

unfoldable pub turned_heard : Outcome → Outcome
turned_heard (goes s) = goes (record {
  due = s.due;
  fixed = s.fixed;
  names = s.names;
  rules = map (turned_rule (length s.names)) s.rules;
  rule = s.rule;
})
turned_heard (wrong i at) = wrong i at

abbrev pub backwards : Maker
backwards text out from to = make_heard (turned_heard (heard text)) out from to

-- `atoms: b a`, a line's end, `a`: the fact a, which is atom 1
abbrev pub second_fact : List ℕ
second_fact = 97 ∷ 116 ∷ 111 ∷ 109 ∷ 115 ∷ 58 ∷ 32 ∷ 98 ∷ 32 ∷ 97 ∷ 10 ∷ 97 ∷ []

-- ---- a name listed twice

unfoldable pub listed_again : Due → Decision → Decision
listed_again due (Ok (next, act)) = Ok (next, act)
listed_again due (Err Form) = Err Form
listed_again due (Err Name) = ifb (is_due due Listing) (Ok (Listing, Note)) (Err Name)
listed_again due (Err TooMany) = Err TooMany

unfoldable pub piece_again : Piece → State → Outcome
piece_again (word w) s = on_decision (listed_again s.due (decision_of w.bytes s)) w s
piece_again (line at) s = on_ended (ended_of s.due) at s

unfoldable pub follow_again : List Piece → State → Outcome
follow_again [] s = goes s
follow_again (p ∷ ps) s = and_then (piece_again p s) (follow_again ps)

abbrev pub takes_first : Maker
takes_first text out from to = make_heard (follow_again (pieces text) start) out from to

-- `atoms: a a`, a line's end, `a`
abbrev pub twice : List ℕ
twice = 97 ∷ 116 ∷ 111 ∷ 109 ∷ 115 ∷ 58 ∷ 32 ∷ 97 ∷ 32 ∷ 97 ∷ 10 ∷ 97 ∷ []

-- ---- both make this book: "0", with two atoms; and the book of `second_fact` is "1"

abbrev pub fact_of_two : List ℕ
fact_of_two = 0 ∷ 0 ∷ 0 ∷ 0 ∷ 0 ∷ 2 ∷ 1 ∷ 3 ∷ 0 ∷ 0x52 ∷ 0x42 ∷ []

abbrev pub other_fact : List ℕ
other_fact = 1 ∷ 0 ∷ 0 ∷ 0 ∷ 0 ∷ 2 ∷ 1 ∷ 3 ∷ 0 ∷ 0x52 ∷ 0x42 ∷ []

-- and a paper that atom 0, which has no rule in it, is in no reading: 45 | 00 | 00 01 01 00 50 43
abbrev pub other_cleared : List ℕ
other_cleared = 0x45 ∷ 0 ∷ 0 ∷ 1 ∷ 1 ∷ 0 ∷ 0x50 ∷ 0x43 ∷ []
