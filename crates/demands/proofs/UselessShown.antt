-- The useless versions of a call with a list of shown atoms do not meet the demands (specs/UselessShown): the demands make each answer as
-- ours does at one call on two pairs, and it does not. By computation from the bytes.
use mathlib.Core.Path.{◌≡◌, refl, sym, ◌∙◌, ap}
use mathlib.Core.List.{List, [], ◌∷◌}
use Prim.Native.Nat.{ℕ}
use native.Mathlib.Omega.{arith}
use Rattle.meaning.specs.Sets.{every, some, every_below, some_below, ascending}
use Rattle.meaning.specs.Books.{same_atom, count, rule, every_rule, some_rule}
use Rattle.meaning.specs.Colours.{heads, all_in, may_on, blocked, starved, clashing, uncoloured}
use Rattle.meaning.specs.Written.{of, add_from, added}
use Rattle.meaning.specs.Computed.{iterate, upheld, support_more, support, goes_off, close_more, marked, stamped, close}
use Rattle.meaning.specs.Lowest.{one_or, lowest_from, lowest, clashed}
use Rattle.meaning.specs.Choice.{ifb, if_lt, if_eq, agree}
use Rattle.meaning.specs.Told.{Told, fewer, Answered}
use Rattle.meaning.specs.Buffers.{write_at}
use Rattle.meaning.proofs.Tests.{apart}
use Rattle.book.specs.Rows.{Bytes}
use Rattle.book.specs.Format.{u16_at, part_of, and_then, bytes_of, record_of, length_of, rule_of, records_of, rules_of, if_fine, body_of, read_of}
use Rattle.walk.specs.Events.{after, events_in, events}
use Rattle.walk.specs.Run.{row_from, row_of, reading_met, tried, met, run}
use Rattle.walk.specs.Find.{set, told_by, find_along, find_read, find_by}
use Rattle.walk.specs.Shown.{alike, shown_after, shown_events}
use Rattle.walk.specs.FindShown.{good_list, find_shown_in, find_shown_read, find_shown_of}
use Rattle.demands.specs.DemandShown.{Finder, DemandShown}
use Rattle.demands.specs.UselessShown.{two_pairs, ignores, along_read, along, last_after, last_events, without_quiet, leaves_out}
use Rattle.demands.proofs.Sentences.{bytes-of}
use Rattle.demands.proofs.Shown.{shown-only-ours}

pairs-bytes : Bytes two_pairs
unfolding every
pairs-bytes = bytes-of two_pairs refl

abbrev told : Answered ℕ → Told ℕ
told a = a.told

abbrev room : List ℕ
room = 7 ∷ 7 ∷ 7 ∷ 7 ∷ []

-- what is told of reading 3, with one atom shown: by ours, by one that ignores the list, by one that compares with the last reading only,
-- and by one that leaves tries out
computed :
    (told (find_shown_of two_pairs 3 1000 (0 ∷ []) room) ≡ fewer 7 2 255)
    × (told (find_shown_of two_pairs 3 1000 (2 ∷ []) room) ≡ fewer 7 2 255)
    × (told (ignores two_pairs 3 1000 (0 ∷ []) room) ≡ set 6)
    × (told (along last_events two_pairs 3 1000 (2 ∷ []) room) ≡ set 6)
    × (told (along leaves_out two_pairs 3 1000 (0 ∷ []) room) ≡ fewer 5 2 255)
unfolding every some every_below some_below ascending same_atom count rule every_rule some_rule heads all_in may_on blocked starved clashing uncoloured of
    add_from added iterate upheld support_more support goes_off close_more marked stamped close one_or lowest_from lowest clashed ifb if_lt if_eq agree
    u16_at part_of and_then bytes_of record_of length_of rule_of records_of rules_of if_fine body_of read_of after events_in events row_from row_of write_at reading_met
    tried met run told_by find_along find_read find_by alike shown_after shown_events good_list find_shown_in find_shown_read find_shown_of along_read last_after
    without_quiet
computed = (refl, refl, refl, refl, refl)

-- the demands make any finder tell what ours does
module _ (f : Finder) (d : DemandShown f) where
  first-shown : told (f two_pairs 3 1000 (0 ∷ []) room) ≡ fewer 7 2 255
  first-shown = ap told (shown-only-ours two_pairs pairs-bytes 3 1000 (0 ∷ []) room f d) ∙ computed.0

  last-shown : told (f two_pairs 3 1000 (2 ∷ []) room) ≡ fewer 7 2 255
  last-shown = ap told (shown-only-ours two_pairs pairs-bytes 3 1000 (2 ∷ []) room f d) ∙ computed.1

pub ignores-fails : DemandShown ignores → ⊥
ignores-fails d = let e = sym computed.2 ∙ first-shown ignores d in apart (cc)

pub last-only-fails : DemandShown (along last_events) → ⊥
last-only-fails d = let e = sym computed.3 ∙ last-shown (along last_events) d in apart (cc)

pub leaves-out-fails : DemandShown (along leaves_out) → ⊥
leaves-out-fails d = let e = sym computed.4 ∙ first-shown (along leaves_out) d in let z : ◌≡◌ {A = ℕ} 5 7 = cc in absurd (omega arith)
