-- The useless versions of a paper that a book has no reading do not meet the demands (specs/UselessNone): the demands make each answer as
-- ours does at one worked book, and it does not; or it accepts such a paper of a book for which ours accepts one that names.
use mathlib.Core.Path.{◌≡◌, refl, sym, ◌∙◌, ap}
use Rattle.meaning.specs.declared.kind.Kind.TheVariants.{Naming}
use Rattle.meaning.specs.Sets.{every, some, every_below, some_below}
use Rattle.meaning.specs.Books.{atom_no, same_atom, same_rule, count, rule, every_rule, some_rule}
use Rattle.meaning.specs.Colours.{put, heads, all_in, may_on, blocked, clashing, uncoloured}
use Rattle.meaning.specs.Claim.{claimed, mark, shown_by, shown, ended}
use Rattle.meaning.specs.Paper.{trailer}
use Rattle.meaning.specs.Written.{of, add_from, added}
use Rattle.meaning.specs.Computed.{iterate, upheld, support_more, support}
use Rattle.meaning.specs.Lowest.{one_or, lowest_from, lowest, listed_if, rules_from, rules_in}
use Rattle.meaning.specs.Engine.{first_of, unsupported, next}
use Rattle.meaning.specs.Choice.{ifb, if_lt, if_eq}
use Rattle.meaning.specs.Told.{Told, refused, Answered}
use Rattle.meaning.specs.Buffers.{write_at}
use Rattle.meaning.proofs.Tests.{apart}
use Rattle.book.specs.Rows.{Bytes}
use Rattle.book.specs.Format.{u16_at, part_of, and_then, bytes_of, record_of, length_of, rule_of, records_of, rules_of, if_fine, body_of, read_of}
use Rattle.book.specs.Format.{book_of, book_in}
use Rattle.writer.specs.Branches.{behind, branch_by, branch_in, branch, below, branches_in, branches}
use Rattle.writer.specs.Scan.{course_at, met, scan}
use Rattle.writer.specs.Write.{Handed, paper, failing, paper_walk, hand_over, after_paper_walk, unwitnessed, write_in, write_read, write_of}
use Rattle.writer.specs.Write.{contradict_of}
use Rattle.checker.specs.Numbers.{no_reading}
use Rattle.checker.specs.Steps.{with_rule, step_by, step_of}
use Rattle.checker.specs.Branches.{after_step, branch_of}
use Rattle.demands.specs.Engine.{ours}
use Rattle.demands.specs.DemandNone.{Contradictor, Checker, SoundNone, DemandNone}
use Rattle.demands.specs.Printed.{fact, fact_paper, choice, contrary}
use Rattle.demands.specs.Useless.{or_cleared}
use Rattle.demands.specs.UselessNone.{contradicts_uncertain, told_anyway, ends_anywhere, NeverContradicts, hasty_none}
use Rattle.demands.specs.Worked.{Holds, sevens}
use Rattle.demands.proofs.Worked.{At, row}
use Rattle.demands.proofs.Sentences.{bytes-of}
use Rattle.demands.proofs.Useless.{choice-bytes}
use Rattle.demands.proofs.Ours3.{ours-3}
use Rattle.demands.proofs.OursNone.{contradict-only}
use Rattle.demands.proofs.NoneBeside.{none-or-name}

abbrev told : Answered Handed → Told Handed
told a = a.told

contrary-bytes : Bytes contrary
unfolding every
contrary-bytes = bytes-of contrary refl

-- what ours tells of "0 if not 1; 1 if not 0" and of "0 if not 0"
computed : (told (contradict_of choice 1000 (sevens 12)) ≡ refused 38) × (told (contradict_of contrary 1000 (sevens 14)) ≡ paper 3 14)
unfolding every some every_below some_below same_atom same_rule count rule every_rule some_rule put heads all_in may_on blocked clashing uncoloured
    claimed mark shown ended trailer of add_from added iterate upheld support_more support one_or lowest_from lowest listed_if rules_from rules_in
    first_of unsupported next ifb if_lt if_eq write_at u16_at part_of and_then bytes_of record_of length_of rule_of records_of rules_of if_fine body_of read_of
    behind branch_by branch_in branch below branches_in branches course_at met scan failing paper_walk hand_over after_paper_walk unwitnessed write_in
    write_read write_of
computed = (refl, refl)

-- it tells a paper of no bytes for "0 if not 1; 1 if not 0"
uncertain-told : told (contradicts_uncertain choice 1000 (sevens 12)) ≡ paper 1 0
unfolding or_cleared if_eq ifb At Holds
uncertain-told =
    ap (λ (r : Answered Handed). told (or_cleared r.told (sevens 12) (contradict_of choice 1000 (sevens 12)))) (row 11)

pub contradicts-uncertain-fails : (check : Checker) → DemandNone contradicts_uncertain check → ⊥
contradicts-uncertain-fails check d =
    let e = sym uncertain-told ∙ ap told (contradict-only choice choice-bytes 1000 (sevens 12) contradicts_uncertain check d) ∙ computed.0 in
    apart (cc)

-- it accepts a paper that "Fact 0" has no reading
anywhere-accepts : ends_anywhere fact hasty_none ≡ no_reading
unfolding told_anyway branch_of after_step step_of step_by with_rule book_in book_of
    read_of body_of if_fine records_of rules_of rule_of length_of record_of bytes_of part_of and_then u16_at
    ended shown shown_by clashing may_on all_in heads put
    some_rule every_rule rule count same_rule same_atom some_below every_below some every ifb if_lt if_eq
anywhere-accepts = refl

pub ends-anywhere-fails : SoundNone ends_anywhere → ⊥
unfolding At Holds
ends-anywhere-fails sound =
    none-or-name ends_anywhere sound Naming ours ours-3.sound fact hasty_none fact_paper (atom_no 0) anywhere-accepts (row 4)

pub never-contradicts-fails : (f : Contradictor) → NeverContradicts f → (check : Checker) → DemandNone f check → ⊥
never-contradicts-fails f never check d =
    never contrary 1000 (sevens 14) 3 14
    (ap told (contradict-only contrary contrary-bytes 1000 (sevens 14) f check d) ∙ computed.1)
