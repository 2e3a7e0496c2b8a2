-- Document 01's cases marked * hold of our engine, all of them under one statement, by computation from the bytes (specs/Worked). A wrong
-- byte, try or number anywhere in the table is refused.
use mathlib.Core.Path.{refl}
use mathlib.Core.List.{List, [], ◌∷◌}
use Prim.Native.Nat.{ℕ, zero, suc}
use Rattle.meaning.specs.Sets.{every, some, every_below, some_below, ascending}
use Rattle.meaning.specs.Books.{same_atom, same_rule, count, rule, every_rule, some_rule}
use Rattle.meaning.specs.AnswerSet.{generates, generating}
use Rattle.meaning.specs.Colours.{put, heads, all_in, may_on, blocked, starved, clashing, uncoloured}
use Rattle.meaning.specs.Claim.{claimed, mark_of, mark, marked_by, shown_by, shown, ended}
use Rattle.meaning.specs.Paper.{unfounded, fails, trailer}
use Rattle.meaning.specs.Written.{of, add_from, added}
use Rattle.meaning.specs.Computed.{iterate, upheld, support_more, support, goes_off, close_more, marked, stamped, close}
use Rattle.meaning.specs.Lowest.{on_pick, one_or, lowest_from, lowest, clashed, listed_if, rules_from, rules_in}
use Rattle.meaning.specs.Engine.{first_of, unsupported, next, listable, listing}
use Rattle.meaning.specs.Engine.{witness_of as own_witness}
use Rattle.meaning.specs.Choice.{ifb, if_lt, if_eq}
use Rattle.book.specs.Format.{u16_at, part_of, and_then, bytes_of, record_of, length_of, rule_of, records_of, rules_of, if_fine, body_of, read_of}
use Rattle.walk.specs.Events.{after, events_in, events}
use Rattle.meaning.specs.Buffers.{write_at}
use Rattle.walk.specs.Run.{row_from, row_of, reading_met, tried, met, run}
use Rattle.walk.specs.Find.{told_by, find_along, find_read, find_by, first_walk}
use Rattle.walk.specs.Page.{set_in}
use Rattle.writer.specs.Branches.{behind, branch_by, branch_in, branch, below, branches_in, branches}
use Rattle.writer.specs.Scan.{course_at, scan}
use Rattle.writer.specs.Scan.{met as branch_met}
use Rattle.writer.specs.PaperNeeds.{whole_paper}
use Rattle.writer.specs.Write.{lacking, failing, paper_walk, hand_over, after_paper_walk, after_first_walk, witnessed, write_in, write_read, write_of}
use Rattle.checker.specs.Steps.{with_rule, proper_list, with_list, step_by, step_of}
use Rattle.checker.specs.Branches.{after_step, branch_of}
use Rattle.checker.specs.Branches.{and_then as branch_then}
use Rattle.checker.specs.Witness.{follows, order_of, blocked_of, rest_fails, list_of, witness_verdict, grounds_verdict}
use Rattle.checker.specs.Witness.{and_then as witness_then}
use Rattle.checker.specs.Check.{witness_told, branch_told, steps_told, stated, trailer_told, marked_told, paper_of, check_read, check_of}
use Rattle.demands.specs.Engine.{ours}
use Rattle.demands.specs.Worked.{Holds, Each, no_more, ◌and◌, cases}

pub worked : Each (Holds ours) cases
unfolding Holds every some every_below some_below ascending same_atom same_rule count rule every_rule some_rule generates generating put heads
    all_in may_on blocked starved clashing uncoloured claimed mark_of mark marked_by shown_by shown ended unfounded fails trailer of add_from added iterate upheld
    support_more support goes_off close_more marked stamped close on_pick one_or lowest_from lowest clashed listed_if
    rules_from rules_in first_of unsupported next listable listing own_witness ifb if_lt if_eq u16_at part_of and_then bytes_of record_of length_of
    rule_of records_of rules_of if_fine body_of read_of after events_in events row_from row_of write_at reading_met tried met run told_by find_along
    find_read find_by set_in behind branch_by branch_in branch below branches_in branches course_at branch_met scan first_walk paper_walk
    whole_paper hand_over after_paper_walk after_first_walk witnessed lacking failing write_in write_read write_of with_rule proper_list with_list step_by step_of branch_then
    after_step branch_of witness_then follows order_of blocked_of rest_fails list_of witness_verdict grounds_verdict witness_told branch_told steps_told stated trailer_told
    marked_told paper_of check_read check_of
worked =
    refl and refl and refl and refl and refl and refl and refl and refl and refl and
    refl and refl and refl and refl and refl and refl and refl and refl and refl and
    refl and refl and refl and refl and refl and refl and refl and refl and refl and
    refl and refl and refl and refl and refl and refl and refl and refl and refl and
    refl and refl and refl and refl and refl and refl and refl and refl and refl and
    refl and refl and no_more

-- ---- a row of the table

-- what P says of member i of a list
unfoldable pub At : {A : Type 0} → (A → Type 0) → List A → ℕ → Type 0
At P [] i = Unit
At P (x ∷ l) zero = P x
At P (x ∷ l) (suc i) = At P l i

pub each_at : {A : Type 0} {P : A → Type 0} {l : List A} → Each P l → (i : ℕ) → At P l i
unfolding At
each_at no_more i = tt
each_at (p and q) zero = p
each_at (p and q) (suc i) = each_at q i

pub row : (i : ℕ) → At (Holds ours) cases i
row i = each_at worked i
