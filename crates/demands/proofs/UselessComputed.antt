-- The useless versions that are refuted by what they compute (specs/Useless): one that closes once and calls the rest off, and the two
-- checkers that accept a paper without a look at each branch. At "0 if not 1; 1 if not 0" and at "0 if 1; 1 if 0". Then the two that mix the
-- kinds of paper, at "Fact 0" and at "0 if not 1; 1 if not 0".
use mathlib.Core.Path.{◌≡◌, refl, sym, ◌∙◌, ap}
use mathlib.Core.List.{◌∷◌}
use Prim.Native.Nat.{ℕ}
use native.Mathlib.Omega.{arith}
use lib.ListN.{get_or}
use Rattle.meaning.specs.declared.kind.Kind.TheVariants.{Naming, Clearing}
use Rattle.meaning.specs.declared.kind.Claim.{Claim}
use Rattle.meaning.specs.Sets.{every, some, every_below, some_below}
use Rattle.meaning.specs.Books.{atom_no, same_atom, same_rule, count, rule, every_rule, some_rule}
use Rattle.meaning.specs.Colours.{put, heads, all_in, may_on, blocked, starved, clashing, uncoloured}
use Rattle.meaning.specs.Claim.{shown_by, shown, ended, Holding}
use Rattle.meaning.specs.Paper.{fails}
use Rattle.meaning.specs.Written.{of, add_from, added}
use Rattle.meaning.specs.Computed.{iterate, upheld, support_more, support, goes_off, close_more, marked, stamped, close}
use Rattle.meaning.specs.Choice.{ifb, if_lt, if_eq}
use Rattle.meaning.specs.Told.{Told, refused_at, Answered}
use Rattle.meaning.proofs.Claims.{not-both}
use Rattle.book.specs.Format.{u16_at, part_of, bytes_of, record_of, length_of, rule_of, records_of, rules_of, if_fine, body_of, read_of}
use Rattle.book.specs.Format.{and_then as records_then, book_of, book_in}
use Rattle.meaning.specs.Buffers.{write_at}
use Rattle.walk.specs.Run.{row_from, row_of}
use Rattle.walk.specs.Find.{set}
use Rattle.writer.specs.Write.{Handed, paper, clear_of}
use Rattle.checker.specs.Numbers.{certain, clear}
use Rattle.checker.specs.Steps.{with_rule, step_by, step_of}
use Rattle.checker.specs.Branches.{and_then}
use Rattle.checker.specs.Witness.{and_then as witness_then, follows, order_of, blocked_of, rest_fails, list_of, witness_verdict, grounds_verdict}
use Rattle.checker.specs.Check.{witness_told, branch_told, check_of}
use Rattle.demands.specs.Demand2.{GivesReadings}
use Rattle.demands.specs.Demand3.{Sound, WritesOnly}
use Rattle.demands.specs.Printed.{fact, fact_paper, fact_as_clearing, choice, circular, circular_paper}
use Rattle.demands.specs.Worked.{Holds, sevens}
use Rattle.demands.specs.Forged.{carried_paper}
use Rattle.demands.specs.Useless.{or_cleared, clears_by, clears_uncertain, told_as, mixes_kinds}
use Rattle.demands.specs.Useless.{form_first, always_accepts, once_in, once_of, closes_once, skip_of, after_first, first_of, first_branch}
use Rattle.demands.proofs.Damaged.{good-is}
use Rattle.demands.proofs.Ours3.{ours-3}
use Rattle.demands.proofs.Worked.{At, row}
use Rattle.demands.proofs.Slips.{circular-uncertain, choice-uncertain, choice-unclear, slips-refused, told-holds}
use Rattle.demands.proofs.Useless.{choice-bytes, gives-first}

-- ---- "One gives the same answer set or always accepts: demand 2, and demand 3's first half."

circular-refused : check_of circular circular_paper ≡ refused_at 25 0
unfolding At Holds
circular-refused = row 16

pub always-accepts-fails : Sound Naming always_accepts → ⊥
unfolding form_first if_lt if_eq ifb Holding
always-accepts-fails sound =
    let told : always_accepts.check circular circular_paper ≡ certain (atom_no 0) =
    ap (λ (t : Told Claim). form_first t (certain (atom_no 0))) circular-refused in
    let (p, k, (b, g, c)) = sound circular circular_paper (atom_no 0) told in
    circular-uncertain g c

-- ---- "One closes once and calls the rest off, or checks only the first branch: the same two."

-- it takes the empty set for the only reading
once-choice : closes_once.find choice 1 1000 (sevens 3) ≡ record { told = set 1; buffer = 0 ∷ 0 ∷ sevens 1 }
unfolding once_of once_in every some every_below some_below same_atom count rule every_rule some_rule heads all_in may_on blocked starved clashing
    of add_from added iterate upheld support_more support goes_off close_more marked stamped close ifb if_lt if_eq row_from row_of write_at
    read_of body_of if_fine records_of rules_of rule_of length_of record_of bytes_of part_of records_then u16_at
once-choice = refl

pub closes-once-fails : GivesReadings closes_once → ⊥
closes-once-fails gives =
    let p = ap (λ (a : Answered ℕ). get_or a.buffer 0 0) (sym once-choice ∙ gives-first closes_once gives) in absurd (omega arith)

-- it accepts a paper whose second branch does not hold
first-accepts : first_branch.check choice carried_paper ≡ certain (atom_no 0)
unfolding form_first branch_told witness_told grounds_verdict witness_verdict list_of rest_fails blocked_of order_of follows witness_then
    first_of after_first skip_of and_then step_of step_by with_rule book_in book_of
    read_of body_of if_fine records_of rules_of rule_of length_of record_of bytes_of part_of records_then u16_at
    fails ended shown shown_by clashing uncoloured blocked may_on all_in heads put
    some_rule every_rule rule count same_rule same_atom some_below every_below some every ifb if_lt if_eq
first-accepts = rw slips-refused.0

pub first-branch-fails : Sound Naming first_branch → ⊥
unfolding Holding
first-branch-fails sound =
    let (p, k, (b, g, c)) = sound choice carried_paper (atom_no 0) first-accepts in choice-uncertain g c

-- ---- who mixes the two kinds of paper: the twin's first half, and its last sentence

-- it tells the paper that names 0 in "Fact 0", under the other mark, as one that clears 0
mixed-accepts : mixes_kinds.check fact fact_as_clearing ≡ clear (atom_no 0)
unfolding told_as if_eq ifb At Holds
mixed-accepts = ap (told_as Clearing) (row 4)

pub mixes-kinds-fails : Sound Clearing mixes_kinds → ⊥
unfolding Holding At Holds
mixes-kinds-fails sound =
    let (p, k, (b, g, n)) = sound fact fact_as_clearing (atom_no 0) mixed-accepts in
    let (q, j, (d, h, c)) = ours-3.sound fact fact_paper (atom_no 0) (row 4) in
    not-both b (atom_no 0) (rw (sym (good-is fact h) ∙ good-is fact g) at c) n

-- it tells a paper of no bytes that clears 0 in "0 if not 1; 1 if not 0"
uncertain-cleared : clears_uncertain.write Clearing choice (atom_no 0) 1000 (sevens 12) ≡ record { told = paper 1 0; buffer = sevens 12 }
unfolding clears_by or_cleared if_eq ifb At Holds
uncertain-cleared = ap (λ (r : Answered Handed). or_cleared r.told (sevens 12) (clear_of choice (atom_no 0) 1000 (sevens 12))) (row 11)

pub clears-uncertain-fails : WritesOnly Clearing clears_uncertain → ⊥
clears-uncertain-fails only =
    let (b, g, c) = told-holds Clearing clears_uncertain only choice choice-bytes (atom_no 0) 1000 (sevens 12) 1 0
    (ap (λ (r : Answered Handed). r.told) uncertain-cleared) in
    choice-unclear g c
