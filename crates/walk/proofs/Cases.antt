-- The worked books of document 01 through find, by computation: the bytes of the book, k, L, and what is told and stands in the buffer
-- afterwards, where it held seven bytes 7 before. And a listing of two sets by pages of one row, which makes the three tries of one walk.
use mathlib.Core.Path.{◌≡◌, refl}
use mathlib.Core.List.{List, [], ◌∷◌, map}
use Prim.Native.Nat.{ℕ}
use Rattle.meaning.specs.Sets.{every, some, every_below, some_below}
use Rattle.meaning.specs.Books.{same_atom, count, rule, every_rule, some_rule}
use Rattle.meaning.specs.AnswerSet.{generates, generating}
use Rattle.meaning.specs.Choice.{ifb, if_lt, if_eq}
use Rattle.meaning.specs.Told.{Told, success, refused, fewer, stopped, Answered}
use Rattle.meaning.specs.Colours.{heads, all_in, may_on, blocked, starved, uncoloured}
use Rattle.meaning.specs.Written.{of, add_from, added}
use Rattle.meaning.specs.Computed.{iterate, upheld, support_more, support, goes_off, close_more, marked, stamped, close}
use Rattle.meaning.specs.Lowest.{one_or, lowest_from, lowest, clashed}
use Rattle.book.specs.Format.{u16_at, part_of, and_then, bytes_of, record_of, length_of, rule_of, records_of, rules_of, if_fine, body_of, read_of}
use Rattle.walk.specs.Events.{after, events_in, events, beside, after_past, rest_in, rest}
use Rattle.meaning.specs.Buffers.{write_at}
use Rattle.walk.specs.Run.{row_from, row_of, reading_met, tried, met, run}
use Rattle.walk.specs.Find.{set, told_by, find_along, find_read, find_by, find_of}
use Rattle.walk.specs.Page.{whole, last, cut, set_in, events_from, room_in, ended_by, page_in, page_read, page_of}

pub record Case : Type 0 where
  pub book : List ℕ
  pub k : ℕ
  pub limit : ℕ
  pub answer : Answered ℕ

abbrev case : List ℕ → ℕ → ℕ → Told ℕ → List ℕ → Case
case book k limit told buffer = record { book = book; k = k; limit = limit; answer = record { told = told; buffer = buffer } }

-- "00 00 00 00 52 42"
abbrev empty : List ℕ
empty = 0 ∷ 0 ∷ 0 ∷ 0 ∷ 0x52 ∷ 0x42 ∷ []

-- "Fact 0"
abbrev fact : List ℕ
fact = 0 ∷ 0 ∷ 0 ∷ 0 ∷ 0 ∷ 1 ∷ 1 ∷ 3 ∷ 0 ∷ 0x52 ∷ 0x42 ∷ []

-- "0 if not 1; 1 if not 0"
abbrev choice : List ℕ
choice = 0 ∷ 0 ∷ 1 ∷ 1 ∷ 1 ∷ 0 ∷ 1 ∷ 0 ∷ 0 ∷ 0 ∷ 4 ∷ 0 ∷ 2 ∷ 2 ∷ 8 ∷ 0 ∷ 0x52 ∷ 0x42 ∷ []

-- "0 if not 0"
abbrev odd : List ℕ
odd = 0 ∷ 0 ∷ 1 ∷ 0 ∷ 0 ∷ 0 ∷ 1 ∷ 1 ∷ 4 ∷ 0 ∷ 0x52 ∷ 0x42 ∷ []

-- "0 if 1; 1 if 0"
abbrev circle : List ℕ
circle = 0 ∷ 1 ∷ 0 ∷ 1 ∷ 1 ∷ 1 ∷ 0 ∷ 0 ∷ 0 ∷ 0 ∷ 4 ∷ 0 ∷ 2 ∷ 2 ∷ 8 ∷ 0 ∷ 0x52 ∷ 0x42 ∷ []

-- "0; 1 if 0 and not 1"
abbrev barring : List ℕ
barring = 0 ∷ 0 ∷ 0 ∷ 1 ∷ 1 ∷ 1 ∷ 0 ∷ 1 ∷ 0 ∷ 0 ∷ 3 ∷ 0 ∷ 2 ∷ 2 ∷ 8 ∷ 0 ∷ 0x52 ∷ 0x42 ∷ []

-- "2 if 0; 2 if 1; 0 if not 1; 1 if not 0"
abbrev either_way : List ℕ
either_way =
    2 ∷ 1 ∷ 0 ∷ 0 ∷ 2 ∷ 1 ∷ 0 ∷ 1 ∷ 0 ∷ 0 ∷ 1 ∷ 1 ∷ 1 ∷ 0 ∷ 1 ∷ 0
    ∷ 0 ∷ 0 ∷ 4 ∷ 0 ∷ 8 ∷ 0 ∷ 12 ∷ 0 ∷ 3 ∷ 4 ∷ 16 ∷ 0 ∷ 0x52 ∷ 0x42 ∷ []

-- "Document 003's six-rule program": 0; 1 if 0; 2 if 1 and not 3; 3 if 0 and not 2; 1 if 4; 5 if 2 and 3 and not 5
abbrev six : List ℕ
six =
    0 ∷ 0 ∷ 0 ∷ 1 ∷ 1 ∷ 0 ∷ 0 ∷ 2 ∷ 1 ∷ 1 ∷ 1 ∷ 3 ∷ 3 ∷ 1 ∷ 1 ∷ 0 ∷ 2 ∷ 1 ∷ 1 ∷ 0 ∷ 4 ∷ 5 ∷ 2 ∷ 1 ∷ 2 ∷ 3 ∷ 5
    ∷ 0 ∷ 0 ∷ 3 ∷ 0 ∷ 7 ∷ 0 ∷ 12 ∷ 0 ∷ 17 ∷ 0 ∷ 21 ∷ 0 ∷ 6 ∷ 6 ∷ 27 ∷ 0 ∷ 0x52 ∷ 0x42 ∷ []

-- "0 if 0; 0 if not 0": the last closing has rule 1 in both sets first, and rule 0 at its end
abbrev late : List ℕ
late = 0 ∷ 1 ∷ 0 ∷ 0 ∷ 0 ∷ 0 ∷ 1 ∷ 0 ∷ 0 ∷ 0 ∷ 4 ∷ 0 ∷ 1 ∷ 2 ∷ 8 ∷ 0 ∷ 0x52 ∷ 0x42 ∷ []

abbrev before : List ℕ
before = 7 ∷ 7 ∷ 7 ∷ 7 ∷ 7 ∷ 7 ∷ 7 ∷ []

abbrev pub cases : List Case
cases =
    case empty 1 1000 (set 1) before
    ∷ case empty 2 1000 (fewer 1 1 255) before
    ∷ case fact 0 1000 (refused 15) before
    ∷ case fact 1 0 (stopped 0) before
    ∷ case fact 1 1000 (set 1) (1 ∷ 7 ∷ 7 ∷ 7 ∷ 7 ∷ 7 ∷ 7 ∷ [])
    ∷ case choice 1 1000 (set 2) (1 ∷ 0 ∷ 7 ∷ 7 ∷ 7 ∷ 7 ∷ 7 ∷ [])
    ∷ case choice 2 1000 (set 3) (0 ∷ 1 ∷ 7 ∷ 7 ∷ 7 ∷ 7 ∷ 7 ∷ [])
    ∷ case choice 3 2 (stopped 2) before
    ∷ case odd 1 1000 (fewer 3 0 0) before
    ∷ case circle 1 1000 (set 1) (0 ∷ 0 ∷ 7 ∷ 7 ∷ 7 ∷ 7 ∷ 7 ∷ [])
    ∷ case barring 1 1000 (fewer 3 0 1) before
    ∷ case either_way 1 1000 (set 7) (1 ∷ 0 ∷ 1 ∷ 7 ∷ 7 ∷ 7 ∷ 7 ∷ [])
    ∷ case either_way 2 1000 (set 12) (0 ∷ 1 ∷ 1 ∷ 7 ∷ 7 ∷ 7 ∷ 7 ∷ [])
    ∷ case either_way 3 1000 (fewer 15 2 1) before
    ∷ case six 1 1000 (set 2) (1 ∷ 1 ∷ 1 ∷ 0 ∷ 0 ∷ 0 ∷ 7 ∷ [])
    ∷ case six 2 1000 (set 3) (1 ∷ 1 ∷ 0 ∷ 1 ∷ 0 ∷ 0 ∷ 7 ∷ [])
    ∷ case six 3 1000 (fewer 3 2 255) before
    ∷ case late 1 1000 (fewer 5 0 0) before
    ∷ []

pub cases-found : map (λ c. find_of c.book c.k c.limit before) cases ≡ map (λ c. c.answer) cases
unfolding every some every_below some_below same_atom count rule every_rule some_rule ifb if_lt if_eq heads all_in may_on blocked starved
    uncoloured of add_from added iterate upheld support_more support goes_off close_more marked stamped close
    one_or lowest_from lowest clashed u16_at part_of and_then bytes_of record_of length_of rule_of records_of rules_of if_fine body_of read_of
    after events_in events row_from row_of write_at reading_met tried met run told_by find_along find_read find_by
cases-found = refl

pub pages-found :
    (page_of choice 1000 0 [] (7 ∷ 7 ∷ 7 ∷ []) ≡ record { told = success (whole 2); buffer = 1 ∷ 0 ∷ 7 ∷ [] })
    × (page_of choice 1000 2 (1 ∷ 0 ∷ []) (7 ∷ 7 ∷ 7 ∷ []) ≡ record { told = success (whole 3); buffer = 0 ∷ 1 ∷ 7 ∷ [] })
    × (page_of choice 1000 3 (0 ∷ 1 ∷ []) (7 ∷ 7 ∷ 7 ∷ []) ≡ record { told = success (last 3 0); buffer = 7 ∷ 7 ∷ 7 ∷ [] })
    × (page_of choice 2 2 (1 ∷ 0 ∷ []) (7 ∷ 7 ∷ 7 ∷ []) ≡ record { told = success (cut 0); buffer = 7 ∷ 7 ∷ 7 ∷ [] })
unfolding every some every_below some_below same_atom count rule every_rule some_rule ifb if_lt if_eq heads all_in may_on blocked starved
    uncoloured of add_from added iterate upheld support_more support goes_off close_more marked stamped close
    one_or lowest_from lowest clashed u16_at part_of and_then bytes_of record_of length_of rule_of records_of rules_of if_fine body_of read_of
    generates generating after events_in events beside after_past rest_in rest row_from row_of write_at reading_met tried met run
    set_in events_from room_in ended_by page_in page_read page_of
pages-found = (refl, refl, refl, refl)
