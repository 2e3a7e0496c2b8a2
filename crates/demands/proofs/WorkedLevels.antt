-- The levels of worked books of document 01, by computation: the tries, and what stands in the buffer afterwards, where it held bytes 7.
use mathlib.Core.Path.{◌≡◌, refl}
use mathlib.Core.List.{[], ◌∷◌}
use Rattle.meaning.specs.Sets.{every, some, every_below, some_below}
use Rattle.meaning.specs.Books.{same_atom, count, rule, every_rule, some_rule}
use Rattle.meaning.specs.AnswerSet.{generates, generating}
use Rattle.meaning.specs.Choice.{ifb, if_lt, if_eq}
use Rattle.meaning.specs.Told.{success, fewer}
use Rattle.meaning.specs.Buffers.{write_at}
use Rattle.meaning.specs.Colours.{heads, all_in, may_on, blocked, starved, uncoloured}
use Rattle.meaning.specs.Written.{of, add_from, added, stamp_from}
use Rattle.meaning.specs.Computed.{iterate, upheld, support_more, support, goes_off, close_more, marked, newly, new_levels, stamped, close}
use Rattle.meaning.specs.Lowest.{one_or, lowest_from, lowest, clashed}
use Rattle.meaning.proofs.Cases.{six, choice, contrary}
use Rattle.walk.specs.Events.{after, events_in, events}
use Rattle.walk.specs.Run.{row_from, row_of, reading_met, tried, met, run}
use Rattle.walk.specs.Find.{told_by}
use Rattle.walk.specs.Page.{set_in}
use Rattle.walk.specs.Levels.{side_of, after_down, down_in, down, levels_by, levels_in}

-- "0 if not 1; 1 if not 0": one choice, and the other rule follows from it; six rules: 0, 1 and 4 have their colour before any choice;
-- "0 if not 0": no reading, and the buffer stays
pub worked-levels :
    (levels_in choice 1 1000 (7 ∷ 7 ∷ 7 ∷ []) ≡ record { told = success 2; buffer = 1 ∷ 1 ∷ 7 ∷ [] })
    × (levels_in choice 2 1000 (7 ∷ 7 ∷ 7 ∷ []) ≡ record { told = success 3; buffer = 1 ∷ 1 ∷ 7 ∷ [] })
    × (levels_in six 1 1000 (7 ∷ 7 ∷ 7 ∷ 7 ∷ 7 ∷ 7 ∷ []) ≡ record { told = success 2; buffer = 0 ∷ 0 ∷ 1 ∷ 1 ∷ 0 ∷ 1 ∷ [] })
    × (levels_in six 2 1000 (7 ∷ 7 ∷ 7 ∷ 7 ∷ 7 ∷ 7 ∷ []) ≡ record { told = success 3; buffer = 0 ∷ 0 ∷ 1 ∷ 1 ∷ 0 ∷ 1 ∷ [] })
    × (levels_in contrary 1 1000 (7 ∷ []) ≡ record { told = fewer 3 0 0; buffer = 7 ∷ [] })
unfolding every some every_below some_below same_atom count rule every_rule some_rule generates generating ifb if_lt if_eq write_at heads all_in may_on
    blocked starved uncoloured of add_from added stamp_from iterate upheld support_more support goes_off close_more marked newly new_levels stamped
    close one_or lowest_from lowest clashed after events_in events row_from row_of reading_met tried met run told_by set_in side_of after_down down_in
    down levels_by levels_in
worked-levels = (refl, refl, refl, refl, refl)
