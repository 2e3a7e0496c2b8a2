-- Worked books of document 01, named through their bytes, by computation: the two papers printed there byte for byte, the limit, an atom
-- that is in one reading only, a book without a reading, an atom that the book does not have, and a buffer that is too short. Then some of
-- them cleared: an atom that is in one reading only is neither named nor cleared. Then papers that a book has no reading, the limits that
-- they need, and books that have one.
use mathlib.Core.Path.{◌≡◌, refl}
use mathlib.Core.List.{List, [], ◌∷◌, ◌++◌}
use Prim.Native.Nat.{ℕ}
use lib.ListN.{replicate}
use Rattle.meaning.specs.Sets.{every, some, every_below, some_below}
use Rattle.meaning.specs.Books.{atom_no, same_atom, same_rule, count, rule, every_rule, some_rule}
use Rattle.meaning.specs.AnswerSet.{generates, generating}
use Rattle.meaning.specs.Colours.{put, heads, all_in, may_on, blocked, starved, clashing, uncoloured}
use Rattle.meaning.specs.Claim.{claimed, mark_of, mark, shown_by, shown, ended}
use Rattle.meaning.specs.Paper.{trailer}
use Rattle.meaning.specs.Written.{of, add_from, added}
use Rattle.meaning.specs.Computed.{iterate, upheld, support_more, support, goes_off, close_more, marked, stamped, close}
use Rattle.meaning.specs.Lowest.{on_pick, one_or, lowest_from, lowest, clashed, listed_if, rules_from, rules_in}
use Rattle.meaning.specs.Engine.{first_of, unsupported, next, listable, listing, witness_of}
use Rattle.meaning.specs.Choice.{ifb, if_lt, if_eq}
use Rattle.meaning.specs.Told.{refused, fewer, stopped}
use Rattle.book.specs.Format.{u16_at, part_of, and_then, bytes_of, record_of, length_of, rule_of, records_of, rules_of, if_fine, body_of, read_of}
use Rattle.walk.specs.Events.{after, events_in, events}
use Rattle.meaning.specs.Buffers.{write_at}
use Rattle.walk.specs.Run.{row_from, row_of, reading_met, tried, met as event_met, run}
use Rattle.walk.specs.Page.{set_in}
use Rattle.walk.specs.Find.{first_walk}
use Rattle.writer.specs.Branches.{behind, branch_by, branch_in, branch, below, branches_in, branches}
use Rattle.writer.specs.Scan.{course_at, met, scan}
use Rattle.writer.specs.PaperNeeds.{whole_paper}
use Rattle.writer.specs.Write.{paper, paper_walk, hand_over, after_paper_walk}
use Rattle.writer.specs.Write.{lacking, failing, after_first_walk, witnessed, unwitnessed, write_in, write_read, write_of}
use Rattle.writer.specs.Write.{name_of, clear_of, contradict_of}

-- "Fact 0: 00 00 00 | 00 00 | 01 01 03 00 52 42"
abbrev fact : List ℕ
fact = 0 ∷ 0 ∷ 0 ∷ 0 ∷ 0 ∷ 1 ∷ 1 ∷ 3 ∷ 0 ∷ 0x52 ∷ 0x42 ∷ []

-- "0 if not 0"
abbrev contrary : List ℕ
contrary = 0 ∷ 0 ∷ 1 ∷ 0 ∷ 0 ∷ 0 ∷ 1 ∷ 1 ∷ 4 ∷ 0 ∷ 0x52 ∷ 0x42 ∷ []

-- "0 if not 1; 1 if not 0"
abbrev choice : List ℕ
choice = 0 ∷ 0 ∷ 1 ∷ 1 ∷ 1 ∷ 0 ∷ 1 ∷ 0 ∷ 0 ∷ 0 ∷ 4 ∷ 0 ∷ 2 ∷ 2 ∷ 8 ∷ 0 ∷ 0x52 ∷ 0x42 ∷ []

-- "2 if 0; 2 if 1; 0 if not 1; 1 if not 0"
abbrev either_way : List ℕ
either_way =
    2 ∷ 1 ∷ 0 ∷ 0 ∷ 2 ∷ 1 ∷ 0 ∷ 1 ∷ 0 ∷ 0 ∷ 1 ∷ 1 ∷ 1 ∷ 0 ∷ 1 ∷ 0 ∷ 0 ∷ 0 ∷ 4 ∷ 0 ∷ 8 ∷ 0 ∷ 12 ∷ 0 ∷ 3 ∷ 4 ∷ 16 ∷ 0 ∷ 0x52 ∷ 0x42 ∷ []

-- "41 00 45 | 00 | 00 01 03 00 50 46"
abbrev fact-paper : List ℕ
fact-paper = 0x41 ∷ 0 ∷ 0x45 ∷ 0 ∷ 0 ∷ 1 ∷ 3 ∷ 0 ∷ 0x50 ∷ 0x46 ∷ []

-- "53 00 45 53 01 45 53 02 41 00 45 41 03 41 01 45 | 02 00 | 02 02 10 00 50 46"
abbrev either-way-paper : List ℕ
either-way-paper =
    0x53 ∷ 0 ∷ 0x45 ∷ 0x53 ∷ 1 ∷ 0x45 ∷ 0x53 ∷ 2 ∷ 0x41 ∷ 0 ∷ 0x45 ∷ 0x41 ∷ 3 ∷ 0x41 ∷ 1 ∷ 0x45
    ∷ 2 ∷ 0 ∷ 2 ∷ 2 ∷ 0x10 ∷ 0 ∷ 0x50 ∷ 0x46 ∷ []

-- "0 if 1; 1 if 0", and the paper that clears 0: 55 02 00 01 45 | | 00 00 05 00 50 43
abbrev circle : List ℕ
circle = 0 ∷ 1 ∷ 0 ∷ 1 ∷ 1 ∷ 1 ∷ 0 ∷ 0 ∷ 0 ∷ 0 ∷ 4 ∷ 0 ∷ 2 ∷ 2 ∷ 8 ∷ 0 ∷ 0x52 ∷ 0x42 ∷ []

abbrev circle-paper : List ℕ
circle-paper = 0x55 ∷ 2 ∷ 0 ∷ 1 ∷ 0x45 ∷ 0 ∷ 0 ∷ 5 ∷ 0 ∷ 0x50 ∷ 0x43 ∷ []

-- "0 if not 0": 53 00 42 00 45 41 00 45 | | 00 00 08 00 50 4e
abbrev contrary-paper : List ℕ
contrary-paper = 0x53 ∷ 0 ∷ 0x42 ∷ 0 ∷ 0x45 ∷ 0x41 ∷ 0 ∷ 0x45 ∷ 0 ∷ 0 ∷ 8 ∷ 0 ∷ 0x50 ∷ 0x4e ∷ []

-- "0; 1 if 0 and not 1": 41 00 53 01 42 01 45 41 01 45 | | 00 00 0a 00 50 4e
abbrev undone : List ℕ
undone = 0 ∷ 0 ∷ 0 ∷ 1 ∷ 1 ∷ 1 ∷ 0 ∷ 1 ∷ 0 ∷ 0 ∷ 3 ∷ 0 ∷ 2 ∷ 2 ∷ 8 ∷ 0 ∷ 0x52 ∷ 0x42 ∷ []

abbrev undone-paper : List ℕ
undone-paper = 0x41 ∷ 0 ∷ 0x53 ∷ 1 ∷ 0x42 ∷ 1 ∷ 0x45 ∷ 0x41 ∷ 1 ∷ 0x45 ∷ 0 ∷ 0 ∷ 10 ∷ 0 ∷ 0x50 ∷ 0x4e ∷ []

-- "0 if 0; 0 if not 0": 53 00 42 01 55 01 00 45 53 01 41 00 45 41 01 45 | | 00 00 10 00 50 4e
abbrev propped : List ℕ
propped = 0 ∷ 1 ∷ 0 ∷ 0 ∷ 0 ∷ 0 ∷ 1 ∷ 0 ∷ 0 ∷ 0 ∷ 4 ∷ 0 ∷ 1 ∷ 2 ∷ 8 ∷ 0 ∷ 0x52 ∷ 0x42 ∷ []

abbrev propped-paper : List ℕ
propped-paper =
    0x53 ∷ 0 ∷ 0x42 ∷ 1 ∷ 0x55 ∷ 1 ∷ 0 ∷ 0x45 ∷ 0x53 ∷ 1 ∷ 0x41 ∷ 0 ∷ 0x45 ∷ 0x41 ∷ 1 ∷ 0x45 ∷ 0 ∷ 0 ∷ 0x10 ∷ 0 ∷ 0x50 ∷ 0x4e ∷ []

-- the empty book
abbrev empty : List ℕ
empty = 0 ∷ 0 ∷ 0 ∷ 0 ∷ 0x52 ∷ 0x42 ∷ []

-- a buffer of n bytes, each 7
abbrev sevens : ℕ → List ℕ
sevens n = replicate n 7

pub worked :
    (name_of fact (atom_no 0) 1000 (sevens 12) ≡ record { told = paper 1 10; buffer = fact-paper ++ sevens 2 })
    × (name_of fact (atom_no 0) 0 (sevens 12) ≡ record { told = stopped 0; buffer = sevens 12 })
    × (name_of fact (atom_no 0) 1000 (sevens 9) ≡ record { told = refused 14; buffer = sevens 9 })
    × (name_of fact (atom_no 1) 1000 (sevens 12) ≡ record { told = refused 13; buffer = sevens 12 })
    × (name_of contrary (atom_no 0) 1000 (sevens 12) ≡ record { told = fewer 3 0 0; buffer = sevens 12 })
    × (name_of choice (atom_no 0) 1000 (sevens 12) ≡ record { told = refused 12; buffer = sevens 12 })
    × (name_of either_way (atom_no 2) 1000 (sevens 24) ≡ record { told = paper 7 24; buffer = either-way-paper })
    × (clear_of circle (atom_no 0) 1000 (sevens 12) ≡ record { told = paper 1 11; buffer = circle-paper ++ sevens 1 })
    × (clear_of fact (atom_no 0) 1000 (sevens 12) ≡ record { told = refused 18; buffer = sevens 12 })
    × (clear_of contrary (atom_no 0) 1000 (sevens 12) ≡ record { told = fewer 3 0 0; buffer = sevens 12 })
    × (clear_of choice (atom_no 0) 1000 (sevens 12) ≡ record { told = refused 18; buffer = sevens 12 })
    × (contradict_of contrary 1000 (sevens 15) ≡ record { told = paper 3 14; buffer = contrary-paper ++ sevens 1 })
    × (contradict_of contrary 2 (sevens 15) ≡ record { told = stopped 2; buffer = sevens 15 })
    × (contradict_of contrary 1000 (sevens 13) ≡ record { told = refused 14; buffer = sevens 13 })
    × (contradict_of undone 1000 (sevens 16) ≡ record { told = paper 3 16; buffer = undone-paper })
    × (contradict_of propped 1000 (sevens 22) ≡ record { told = paper 5 22; buffer = propped-paper })
    × (contradict_of empty 1000 (sevens 6) ≡ record { told = refused 38; buffer = sevens 6 })
    × (contradict_of empty 0 (sevens 6) ≡ record { told = stopped 0; buffer = sevens 6 })
    × (contradict_of fact 1000 (sevens 6) ≡ record { told = refused 38; buffer = sevens 6 })
    × (contradict_of fact 0 (sevens 6) ≡ record { told = stopped 0; buffer = sevens 6 })
    × (contradict_of choice 1000 (sevens 6) ≡ record { told = refused 38; buffer = sevens 6 })
    × (contradict_of choice 1 (sevens 6) ≡ record { told = stopped 1; buffer = sevens 6 })
unfolding every some every_below some_below same_atom same_rule count rule every_rule some_rule generates generating put heads all_in
    may_on blocked starved clashing uncoloured claimed mark_of mark shown_by shown ended trailer of add_from added iterate upheld support_more support
    goes_off close_more marked stamped close on_pick one_or lowest_from lowest clashed listed_if rules_from rules_in
    first_of unsupported next listable listing witness_of ifb if_lt if_eq u16_at part_of and_then bytes_of record_of length_of rule_of
    records_of rules_of if_fine body_of read_of after events_in events row_from row_of write_at reading_met tried event_met run set_in
    behind branch_by branch_in branch below branches_in branches course_at met scan first_walk paper_walk whole_paper hand_over
    after_paper_walk after_first_walk witnessed unwitnessed write_in write_read write_of lacking failing
worked = (
  refl,
  refl,
  refl,
  refl,
  refl,
  refl,
  refl,
  refl,
  refl,
  refl,
  refl,
  refl,
  refl,
  refl,
  refl,
  refl,
  refl,
  refl,
  refl,
  refl,
  refl,
  refl,
)
