-- Small books through the no_mo_re way, by computation from their bytes: what is told and stands in the buffer afterwards, where it held three
-- bytes 7 before. The last book is one whose test fails: "0 if not 1; 1 if 1" has one reading, and the side with rule 0 off ends at a test
-- that brings rule 0 to both sides.
use mathlib.Core.Path.{◌≡◌, refl}
use mathlib.Core.List.{List, [], ◌∷◌}
use Prim.Native.Nat.{ℕ}
use Rattle.meaning.specs.Sets.{every, some, every_below, some_below}
use Rattle.meaning.specs.Books.{same_atom, count, rule, every_rule, some_rule}
use Rattle.meaning.specs.Choice.{ifb, if_lt, if_eq}
use Rattle.meaning.specs.Told.{Told, fewer, stopped}
use Rattle.meaning.specs.Colours.{heads, all_in, may_on, blocked, starved, uncoloured}
use Rattle.meaning.specs.Written.{of, add_from, added}
use Rattle.meaning.specs.Computed.{iterate}
use Rattle.meaning.specs.Propagation.{may_off, propagate_more, propagate}
use Rattle.meaning.specs.Lowest.{one_or, lowest_from, lowest, clashed}
use Rattle.meaning.specs.Buffers.{write_at}
use Rattle.book.specs.Format.{u16_at, part_of, and_then, bytes_of, record_of, length_of, rule_of, records_of, rules_of, if_fine, body_of, read_of}
use Rattle.walk.specs.Run.{row_from, row_of, reading_met, tried, met, run}
use Rattle.walk.specs.Find.{set, told_by, find_along, find_read, find_by}
use Rattle.nomore.specs.Own.{supported, rest_off, tested, own_after, own_in, own_from, own_events}

abbrev sevens : List ℕ
sevens = 7 ∷ 7 ∷ 7 ∷ []

abbrev empty : List ℕ
empty = 0 ∷ 0 ∷ 0 ∷ 0 ∷ 0x52 ∷ 0x42 ∷ []

-- "Fact 0"
abbrev fact : List ℕ
fact = 0 ∷ 0 ∷ 0 ∷ 0 ∷ 0 ∷ 1 ∷ 1 ∷ 3 ∷ 0 ∷ 0x52 ∷ 0x42 ∷ []

-- "0 if 1; 1 if 0"
abbrev circle : List ℕ
circle = 0 ∷ 1 ∷ 0 ∷ 1 ∷ 1 ∷ 1 ∷ 0 ∷ 0 ∷ 0 ∷ 0 ∷ 4 ∷ 0 ∷ 2 ∷ 2 ∷ 8 ∷ 0 ∷ 0x52 ∷ 0x42 ∷ []

-- "0 if not 1; 1 if 1"
abbrev leaning : List ℕ
leaning = 0 ∷ 0 ∷ 1 ∷ 1 ∷ 1 ∷ 1 ∷ 0 ∷ 1 ∷ 0 ∷ 0 ∷ 4 ∷ 0 ∷ 2 ∷ 2 ∷ 8 ∷ 0 ∷ 0x52 ∷ 0x42 ∷ []

-- the k-th reading of a book within a limit
abbrev Told-as : List ℕ → ℕ → ℕ → Told ℕ → List ℕ → Type 0
Told-as book k limit told buffer = find_by own_events book k limit sevens ≡ record { told = told; buffer = buffer }

pub own-cases : Told-as empty 2 1000 (fewer 2 1 255) sevens × Told-as fact 1 1 (stopped 1) sevens
    × Told-as fact 1 1000 (set 2) (1 ∷ 7 ∷ 7 ∷ []) × Told-as circle 1 1000 (set 2) (0 ∷ 0 ∷ 7 ∷ [])
    × Told-as leaning 1 1000 (set 3) (1 ∷ 0 ∷ 7 ∷ []) × Told-as leaning 2 1000 (fewer 5 1 0) sevens
unfolding every some every_below some_below same_atom count rule every_rule some_rule ifb if_lt if_eq heads all_in may_on blocked starved
    uncoloured of add_from added iterate may_off propagate_more propagate one_or lowest_from lowest clashed u16_at part_of and_then bytes_of record_of
    length_of rule_of records_of rules_of if_fine body_of read_of supported rest_off tested own_after own_in own_from own_events row_from row_of write_at
    reading_met tried met run told_by find_along find_read find_by
own-cases = (refl, refl, refl, refl, refl, refl)
