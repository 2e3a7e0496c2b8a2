-- What is due, and what each word does there. "A rule: `HEAD`, or `HEAD if L and L ..`, each L `NAME` or `not NAME`", then `unless NAME or
-- NAME ..`, with or without the `if`. "A line of blanks, or whose first word starts with `#`, says nothing." `atoms: NAME NAME ..` is a line of its own.
--
--   Move                 what is due behind a word and what the word says; none where it cannot stand
--   is_due due other      they are the same
--   only_at ..            what a word does that may stand at one place only; in a remark any word may
--   on_name due           what a name does
--   move_of due term      what a word of that kind does
--   ended_of due          what the end of a line ends there
use Rattle.std.specs.Prelude.{Bool, ℕ, eqb, Option, Some, None}
use Rattle.meaning.specs.Choice.{ifb}
use Rattle.words.specs.declared.term.Term.{Term}
use Rattle.words.specs.declared.term.Term.TheVariants.{If, And, Not, Unless, Or, Atoms, Remark, Name, Other}
use Rattle.words.specs.declared.due.Due.{Due}
use Rattle.words.specs.declared.due.Due.TheVariants.{Line, Remark as InRemark, Listing, AfterHead, Literal, Negative, AfterAtom, Exception, AfterException}
use Rattle.words.specs.declared.due.Standing.TheVariants.{Head, Positive as InPositive, Negative as InNegative}
use Rattle.words.specs.declared.due.Said.{Said}
use Rattle.words.specs.declared.due.Said.TheVariants.{Nothing as Silent, Lists, Listed, Atom}
use Rattle.words.specs.declared.due.Ended.{Ended}
use Rattle.words.specs.declared.due.Ended.TheVariants.{Nothing, Rule, Missing}

-- what is due behind a word, and what the word says; none where it cannot stand
abbrev pub Move : Type 0
Move = Option (Due × Said)

-- a number for each, to compare them by
unfoldable pub rank : Due → ℕ
rank Line = 0
rank InRemark = 1
rank Listing = 2
rank AfterHead = 3
rank Literal = 4
rank Negative = 5
rank AfterAtom = 6
rank Exception = 7
rank AfterException = 8

unfoldable pub is_due : Due → Due → Bool
is_due due other = eqb (rank due) (rank other)

-- a word with no other meaning here: only a remark goes on with it
unfoldable pub remarked : Due → Move
remarked due = ifb (is_due due InRemark) (Some (InRemark, Silent)) None

unfoldable pub only_at : Due → Due → Due → Said → Move
only_at due place next said = ifb (is_due due place) (Some (next, said)) (remarked due)

unfoldable pub on_unless : Due → Move
on_unless due = ifb (is_due due AfterHead) (Some (Exception, Silent)) (only_at due AfterAtom Exception Silent)

unfoldable pub on_name : Due → Move
on_name Line = Some (AfterHead, (Atom Head))
on_name InRemark = Some (InRemark, Silent)
on_name Listing = Some (Listing, Listed)
on_name AfterHead = None
on_name Literal = Some (AfterAtom, (Atom InPositive))
on_name Negative = Some (AfterAtom, (Atom InNegative))
on_name AfterAtom = None
on_name Exception = Some (AfterException, (Atom InNegative))
on_name AfterException = None

unfoldable pub move_of : Due → Term → Move
move_of due If = only_at due AfterHead Literal Silent
move_of due And = only_at due AfterAtom Literal Silent
move_of due Not = only_at due Literal Negative Silent
move_of due Unless = on_unless due
move_of due Or = only_at due AfterException Exception Silent
move_of due Atoms = only_at due Line Listing Lists
move_of due Remark = only_at due Line InRemark Silent
move_of due Name = on_name due
move_of due Other = remarked due

unfoldable pub ended_of : Due → Ended
ended_of Line = Nothing
ended_of InRemark = Nothing
ended_of Listing = Nothing
ended_of AfterHead = Rule
ended_of Literal = Missing
ended_of Negative = Missing
ended_of AfterAtom = Rule
ended_of Exception = Missing
ended_of AfterException = Rule
