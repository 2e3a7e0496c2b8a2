-- The table of four books, by computation from their bytes (request 13): a fact, a choice, a book without answer sets, and a book with an
-- atom that is in none. And the table of no books, and a line for each thing that can be wrong with a book.
use Rattle.std.proofs.Common.{◌≡◌, ℕ, List, [], ◌∷◌, replicate, refl}
use Rattle.meaning.specs.Sets.{every, some, every_below, some_below}
use Rattle.meaning.specs.Books.{same_atom, count, rule, every_rule, some_rule}
use Rattle.meaning.specs.Choice.{ifb, if_lt, if_eq}
use Rattle.meaning.specs.Colours.{heads, all_in, may_on, blocked, starved, clashing, uncoloured}
use Rattle.meaning.specs.Written.{of, add_from, added}
use Rattle.meaning.specs.Computed.{iterate, upheld, support_more, support, goes_off, close_more, marked, stamped, close}
use Rattle.meaning.specs.Lowest.{one_or, lowest_from, lowest, clashed}
use Rattle.book.specs.Format.{u16_at, part_of, and_then, bytes_of, record_of, length_of, rule_of, records_of, rules_of, if_fine, body_of, read_of, book_of, book_in}
use Rattle.walk.specs.Events.{after, events_in, events}
use Rattle.walk.specs.Readings.{readings_in}
use Rattle.counting.specs.Counts.{standing, numbers_from}
use Rattle.counting.specs.Count.{count_in, count_read, count_of}
use Rattle.counting.specs.Totals.{number_below, no_totals, totals_from, totals_with}
use Rattle.counting.specs.Table.{unread, bytes, row, no-sets, refuse, turn_by, turn_of, turns_of}
use Rattle.counting.specs.Table.{without_from, too_many, table, table_of}

-- "Fact 0"
abbrev fact : List ℕ
fact = 0 ∷ 0 ∷ 0 ∷ 0 ∷ 0 ∷ 1 ∷ 1 ∷ 3 ∷ 0 ∷ 0x52 ∷ 0x42 ∷ []

-- "0 if not 1; 1 if not 0"
abbrev choice : List ℕ
choice = 0 ∷ 0 ∷ 1 ∷ 1 ∷ 1 ∷ 0 ∷ 1 ∷ 0 ∷ 0 ∷ 0 ∷ 4 ∷ 0 ∷ 2 ∷ 2 ∷ 8 ∷ 0 ∷ 0x52 ∷ 0x42 ∷ []

-- "0 if not 0"
abbrev contrary : List ℕ
contrary = 0 ∷ 0 ∷ 1 ∷ 0 ∷ 0 ∷ 0 ∷ 1 ∷ 1 ∷ 4 ∷ 0 ∷ 0x52 ∷ 0x42 ∷ []

-- "0 if not 1; 1 if 1"
abbrev circle : List ℕ
circle = 0 ∷ 0 ∷ 1 ∷ 1 ∷ 1 ∷ 1 ∷ 0 ∷ 1 ∷ 0 ∷ 0 ∷ 4 ∷ 0 ∷ 2 ∷ 2 ∷ 8 ∷ 0 ∷ 0x52 ∷ 0x42 ∷ []

-- the array that is lent
abbrev sevens : List ℕ
sevens = replicate 255 7

-- the tables of four calls, each told by the line above it
pub worked-tables :
    -- "1 sets 1 atoms 1|2 sets 2 atoms 1 1|3 sets 0|4 sets 1 atoms 1 0|without 3|certain 2 some 2 none 1 of 5|"
    (table_of (bytes fact ∷ bytes choice ∷ bytes contrary ∷ bytes circle ∷ []) 1000000 sevens ≡ table
    (row 1 (1 ∷ []) ∷ row 2 (1 ∷ 1 ∷ []) ∷ no-sets ∷ row 1 (1 ∷ 0 ∷ []) ∷ []) (3 ∷ [])
    (record { certain = 2; some = 2; none = 1; atoms = 5 }))
    -- "without|certain 0 some 0 none 0 of 0|"
    × (table_of [] 1000000 sevens ≡ table [] [] no_totals)
    -- 65 names: "refused 36" alone
    × (table_of (replicate 65 (bytes fact)) 1000000 sevens ≡ too_many)
    -- 37, 1 and 9, each in a line of its own, counted in no total; the fact beside them counts
    × (table_of (unread ∷ bytes [] ∷ bytes choice ∷ bytes fact ∷ []) 2 sevens ≡ table
    (refuse 37 ∷ refuse 1 ∷ refuse 9 ∷ row 1 (1 ∷ []) ∷ []) []
    (record { certain = 1; some = 0; none = 0; atoms = 1 }))
unfolding every some every_below some_below same_atom count rule every_rule some_rule ifb if_lt if_eq heads all_in may_on blocked starved
    clashing uncoloured of add_from added iterate upheld support_more support goes_off close_more marked stamped close one_or lowest_from lowest clashed
    u16_at part_of and_then bytes_of record_of length_of rule_of records_of rules_of if_fine body_of read_of after events_in events readings_in
    standing numbers_from count_in count_read count_of book_of book_in number_below totals_from totals_with turn_by turn_of turns_of without_from table_of
worked-tables = (refl, refl, refl, refl)
