-- The worked papers of document 01, and one paper for each number, computed from the bytes of book and paper: a reader sees the
-- definitions work. A wrong row is refused.
use mathlib.Core.Path.{◌≡◌, refl}
use mathlib.Core.List.{List, [], ◌∷◌, map}
use Prim.Native.Nat.{ℕ}
use Rattle.meaning.specs.Sets.{every, some, every_below, some_below, ascending}
use Rattle.meaning.specs.declared.kind.Claim.{Claim}
use Rattle.meaning.specs.Books.{atom_no, same_atom, same_rule, count, rule, every_rule, some_rule}
use Rattle.meaning.specs.Colours.{put, heads, all_in, may_on, blocked, uncoloured, clashing}
use Rattle.meaning.specs.Claim.{marked_by, shown_by, shown, ended}
use Rattle.meaning.specs.Paper.{unfounded, fails}
use Rattle.meaning.specs.Choice.{ifb, if_lt, if_eq}
use Rattle.meaning.specs.Told.{Told, refused_at}
use Rattle.book.specs.Format.{u16_at, part_of, bytes_of, record_of, length_of, rule_of, records_of, rules_of, if_fine, body_of, read_of}
use Rattle.book.specs.Format.{and_then as records_then}
use Rattle.checker.specs.Numbers.{certain, clear, no_reading}
use Rattle.checker.specs.Steps.{with_rule, proper_list, with_list, step_by, step_of}
use Rattle.checker.specs.Branches.{and_then, after_step, branch_of}
use Rattle.checker.specs.Witness.{and_then as witness_then, follows, order_of, blocked_of, rest_fails, list_of, witness_verdict, grounds_verdict}
use Rattle.checker.specs.Check.{witness_told, branch_told, steps_told, stated, trailer_told, marked_told, paper_of, check_read, check_of}

-- "Fact 0"
abbrev fact : List ℕ
fact = 0 ∷ 0 ∷ 0 ∷ 0 ∷ 0 ∷ 1 ∷ 1 ∷ 3 ∷ 0 ∷ 0x52 ∷ 0x42 ∷ []

-- "0 if 1; 1 if 0"
abbrev circle : List ℕ
circle = 0 ∷ 1 ∷ 0 ∷ 1 ∷ 1 ∷ 1 ∷ 0 ∷ 0 ∷ 0 ∷ 0 ∷ 4 ∷ 0 ∷ 2 ∷ 2 ∷ 8 ∷ 0 ∷ 0x52 ∷ 0x42 ∷ []

-- "2 if 0; 2 if 1; 0 if not 1; 1 if not 0"
abbrev either_way : List ℕ
either_way =
    2 ∷ 1 ∷ 0 ∷ 0 ∷ 2 ∷ 1 ∷ 0 ∷ 1 ∷ 0 ∷ 0 ∷ 1 ∷ 1 ∷ 1 ∷ 0 ∷ 1 ∷ 0
    ∷ 0 ∷ 0 ∷ 4 ∷ 0 ∷ 8 ∷ 0 ∷ 12 ∷ 0 ∷ 3 ∷ 4 ∷ 16 ∷ 0 ∷ 0x52 ∷ 0x42 ∷ []

-- "0 if not 0", and the empty book
abbrev contrary : List ℕ
contrary = 0 ∷ 0 ∷ 1 ∷ 0 ∷ 0 ∷ 0 ∷ 1 ∷ 1 ∷ 4 ∷ 0 ∷ 0x52 ∷ 0x42 ∷ []

abbrev empty : List ℕ
empty = 0 ∷ 0 ∷ 0 ∷ 0 ∷ 0x52 ∷ 0x42 ∷ []

-- a book, a paper, and what checking answers
abbrev pub papers : List (List ℕ × List ℕ × Told Claim)
papers =
    -- document 01's worked papers
    (fact, 0x41 ∷ 0 ∷ 0x45 ∷ 0 ∷ 0 ∷ 1 ∷ 3 ∷ 0 ∷ 0x50 ∷ 0x46 ∷ [], certain (atom_no 0))
    ∷ (fact, 0x45 ∷ 0 ∷ 0 ∷ 1 ∷ 1 ∷ 0 ∷ 0x50 ∷ 0x46 ∷ [], refused_at 25 0)
    ∷ (circle, 0x41 ∷ 0 ∷ 0x45 ∷ 0 ∷ 0 ∷ 3 ∷ 0 ∷ 0x50 ∷ 0x46 ∷ [], refused_at 25 0)
    ∷ (
      either_way,
      0x53 ∷ 0 ∷ 0x45 ∷ 0x53 ∷ 1 ∷ 0x45 ∷ 0x53 ∷ 2 ∷ 0x41 ∷ 0 ∷ 0x45 ∷ 0x41 ∷ 3 ∷ 0x41 ∷ 1 ∷ 0x45
          ∷ 2 ∷ 0 ∷ 2 ∷ 2 ∷ 16 ∷ 0 ∷ 0x50 ∷ 0x46 ∷ [],
      certain (atom_no 2),
    )
    -- papers that clear: two rules that hold each other up; the same steps do not name the atom; an atom with a rule that isn't off; the
    -- naming paper under the other mark
    ∷ (circle, 0x55 ∷ 2 ∷ 0 ∷ 1 ∷ 0x45 ∷ 0 ∷ 0 ∷ 5 ∷ 0 ∷ 0x50 ∷ 0x43 ∷ [], clear (atom_no 0))
    ∷ (circle, 0x55 ∷ 2 ∷ 0 ∷ 1 ∷ 0x45 ∷ 0 ∷ 0 ∷ 5 ∷ 0 ∷ 0x50 ∷ 0x46 ∷ [], refused_at 25 4)
    ∷ (circle, 0x45 ∷ 0 ∷ 0 ∷ 1 ∷ 0 ∷ 0x50 ∷ 0x43 ∷ [], refused_at 25 0)
    ∷ (fact, 0x41 ∷ 0 ∷ 0x45 ∷ 0 ∷ 0 ∷ 1 ∷ 3 ∷ 0 ∷ 0x50 ∷ 0x43 ∷ [], refused_at 25 2)
    -- papers that the book has no reading: "0 if not 0"; the same under the other marks, with an atom, and with a witness; a branch that
    -- ends without a contradiction; 45 alone, also for a book without rules; another mark
    ∷ (contrary, 0x53 ∷ 0 ∷ 0x42 ∷ 0 ∷ 0x45 ∷ 0x41 ∷ 0 ∷ 0x45 ∷ 0 ∷ 0 ∷ 8 ∷ 0 ∷ 0x50 ∷ 0x4e ∷ [], no_reading)
    ∷ (contrary, 0x53 ∷ 0 ∷ 0x42 ∷ 0 ∷ 0x45 ∷ 0x41 ∷ 0 ∷ 0x45 ∷ 0 ∷ 0 ∷ 8 ∷ 0 ∷ 0x50 ∷ 0x46 ∷ [], refused_at 27 8)
    ∷ (contrary, 0x53 ∷ 0 ∷ 0x42 ∷ 0 ∷ 0x45 ∷ 0x41 ∷ 0 ∷ 0x45 ∷ 0 ∷ 0 ∷ 8 ∷ 0 ∷ 0x50 ∷ 0x43 ∷ [], refused_at 27 8)
    ∷ (contrary, 0x53 ∷ 0 ∷ 0x42 ∷ 0 ∷ 0x45 ∷ 0x41 ∷ 0 ∷ 0x45 ∷ 1 ∷ 0 ∷ 8 ∷ 0 ∷ 0x50 ∷ 0x4e ∷ [], refused_at 23 8)
    ∷ (contrary, 0x53 ∷ 0 ∷ 0x42 ∷ 0 ∷ 0x45 ∷ 0x41 ∷ 0 ∷ 0x45 ∷ 0 ∷ 0 ∷ 1 ∷ 8 ∷ 0 ∷ 0x50 ∷ 0x4e ∷ [], refused_at 27 8)
    ∷ (contrary, 0x53 ∷ 0 ∷ 0x42 ∷ 0 ∷ 0x45 ∷ 0x45 ∷ 0 ∷ 0 ∷ 6 ∷ 0 ∷ 0x50 ∷ 0x4e ∷ [], refused_at 25 5)
    ∷ (contrary, 0x45 ∷ 0 ∷ 0 ∷ 1 ∷ 0 ∷ 0x50 ∷ 0x4e ∷ [], refused_at 25 0)
    ∷ (empty, 0x45 ∷ 0 ∷ 0 ∷ 1 ∷ 0 ∷ 0x50 ∷ 0x4e ∷ [], refused_at 25 0)
    ∷ (contrary, 0x53 ∷ 0 ∷ 0x42 ∷ 0 ∷ 0x45 ∷ 0x41 ∷ 0 ∷ 0x45 ∷ 0 ∷ 0 ∷ 8 ∷ 0 ∷ 0x50 ∷ 0x4f ∷ [], refused_at 21 12)
    -- the book is refused first; then 20 to 23, 21 for a mark of no kind
    ∷ ([], [], refused_at 1 0)
    ∷ (fact, [], refused_at 20 0)
    ∷ (fact, 0x41 ∷ 0 ∷ 0x45 ∷ 0 ∷ 0 ∷ 1 ∷ 3 ∷ 0 ∷ 0x50 ∷ 0x42 ∷ [], refused_at 21 8)
    ∷ (fact, 0x41 ∷ 0 ∷ 0x45 ∷ 0 ∷ 0 ∷ 1 ∷ 4 ∷ 0 ∷ 0x50 ∷ 0x46 ∷ [], refused_at 22 6)
    ∷ (fact, 0x41 ∷ 0 ∷ 0x45 ∷ 0 ∷ 1 ∷ 1 ∷ 3 ∷ 0 ∷ 0x50 ∷ 0x46 ∷ [], refused_at 23 4)
    -- 24: an unknown code; a rule not below R; an empty list; a step due at the witness start
    ∷ (fact, 0x40 ∷ 0 ∷ 0x45 ∷ 0 ∷ 0 ∷ 1 ∷ 3 ∷ 0 ∷ 0x50 ∷ 0x46 ∷ [], refused_at 24 0)
    ∷ (fact, 0x41 ∷ 1 ∷ 0x45 ∷ 0 ∷ 0 ∷ 1 ∷ 3 ∷ 0 ∷ 0x50 ∷ 0x46 ∷ [], refused_at 24 0)
    ∷ (fact, 0x55 ∷ 0 ∷ 0x45 ∷ 0 ∷ 0 ∷ 1 ∷ 3 ∷ 0 ∷ 0x50 ∷ 0x46 ∷ [], refused_at 24 0)
    ∷ (fact, 0x41 ∷ 0 ∷ 0 ∷ 0 ∷ 1 ∷ 2 ∷ 0 ∷ 0x50 ∷ 0x46 ∷ [], refused_at 24 2)
    -- 26: a second 45
    ∷ (fact, 0x41 ∷ 0 ∷ 0x45 ∷ 0x45 ∷ 0 ∷ 0 ∷ 1 ∷ 4 ∷ 0 ∷ 0x50 ∷ 0x46 ∷ [], refused_at 26 3)
    -- 27: a rule not below R; a rule twice; a rule left out
    ∷ (fact, 0x41 ∷ 0 ∷ 0x45 ∷ 1 ∷ 0 ∷ 1 ∷ 3 ∷ 0 ∷ 0x50 ∷ 0x46 ∷ [], refused_at 27 3)
    ∷ (fact, 0x41 ∷ 0 ∷ 0x45 ∷ 0 ∷ 0 ∷ 0 ∷ 2 ∷ 3 ∷ 0 ∷ 0x50 ∷ 0x46 ∷ [], refused_at 27 4)
    ∷ (fact, 0x41 ∷ 0 ∷ 0x45 ∷ 0 ∷ 0 ∷ 3 ∷ 0 ∷ 0x50 ∷ 0x46 ∷ [], refused_at 27 3)
    ∷ []

pub papers-checked : map (λ (c : List ℕ × List ℕ × Told Claim). check_of c.0 c.1) papers
    ≡ map (λ (c : List ℕ × List ℕ × Told Claim). c.2) papers
unfolding check_of check_read paper_of marked_told marked_by trailer_told stated steps_told branch_told witness_told
    grounds_verdict witness_verdict list_of rest_fails blocked_of order_of follows witness_then
    branch_of after_step and_then step_of step_by with_list proper_list with_rule
    read_of body_of if_fine records_of rules_of rule_of length_of record_of bytes_of part_of records_then u16_at
    unfounded fails ended shown shown_by clashing uncoloured blocked may_on all_in heads put
    some_rule every_rule rule count same_rule same_atom ascending some_below every_below some every ifb if_lt if_eq
papers-checked = refl
