-- The worked cases of join and log hold of ours, all of them under one statement, by computation from the bytes (specs/WorkedCrews).
use mathlib.Core.Path.{refl}
use Rattle.meaning.specs.Sets.{every, some, every_below, some_below, ascending}
use Rattle.meaning.specs.Books.{same_atom, same_rule, count, rule, every_rule, some_rule}
use Rattle.meaning.specs.AnswerSet.{generates, generating}
use Rattle.meaning.specs.Colours.{put, heads, all_in, may_on, blocked, starved, clashing, uncoloured}
use Rattle.meaning.specs.Written.{of, add_from, added}
use Rattle.meaning.specs.Computed.{iterate, upheld, support_more, support, goes_off, close_more, marked, stamped, close}
use Rattle.meaning.specs.Lowest.{on_pick, one_or, lowest_from, lowest, clashed, listed_if, rules_from, rules_in}
use Rattle.meaning.specs.Choice.{ifb, if_lt, if_eq}
use Rattle.meaning.specs.Buffers.{write_at}
use Rattle.meaning.specs.Joined.{up_rule, joined}
use Rattle.book.specs.Format.{u16_at, part_of, and_then, bytes_of, record_of, length_of, rule_of, records_of, rules_of, if_fine, body_of, read_of}
use Rattle.book.specs.Writing.{record_bytes, records_bytes, index_bytes, trailer_bytes, bytes_of_book}
use Rattle.walk.specs.Events.{after, events_in, events}
use Rattle.walk.specs.Run.{row_from, row_of, reading_met, tried, met, run}
use Rattle.walk.specs.Find.{first_walk}
use Rattle.crews.specs.Join.{laid_of, join_laid, on_books}
use Rattle.crews.specs.Log.{passed, found, entry_of, after_search, log_laid}
use Rattle.demands.specs.Worked.{Each, no_more, ◌and◌}
use Rattle.demands.specs.TwoCrews.{our_crews}
use Rattle.demands.specs.WorkedCrews.{CrewsHold, crews_cases}

pub worked-crews : Each (CrewsHold our_crews) crews_cases
unfolding CrewsHold every some every_below some_below ascending same_atom same_rule count rule every_rule some_rule generates generating put heads
    all_in may_on blocked starved clashing uncoloured of add_from added iterate upheld support_more support goes_off close_more marked stamped
    close on_pick one_or lowest_from lowest clashed listed_if rules_from rules_in ifb if_lt if_eq write_at up_rule joined u16_at part_of and_then bytes_of
    record_of length_of rule_of records_of rules_of if_fine body_of read_of record_bytes records_bytes index_bytes trailer_bytes bytes_of_book after
    events_in events row_from row_of reading_met tried met run first_walk laid_of join_laid on_books passed found entry_of after_search log_laid
worked-crews =
    refl and refl and refl and refl and refl and refl and refl and refl and refl and refl and refl and refl and refl and refl and no_more
