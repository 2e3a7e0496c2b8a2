-- Three pairs "0 if not 1; 1 if not 0", "2 if not 3; ..", "4 if not 5; ..": eight readings in fifteen tries. The rows of the readings that
-- count, for some lists of shown atoms, and the tries, which stay the same; by computation.
use mathlib.Core.Path.{◌≡◌, refl}
use mathlib.Core.List.{List, [], ◌∷◌, map}
use Prim.Native.Nat.{ℕ}
use lib.ListN.{length}
use Rattle.meaning.specs.Sets.{every, some, every_below, some_below}
use Rattle.meaning.specs.Books.{Atoms, Rule, Book, atom_no, same_atom, count, rule, every_rule, some_rule}
use Rattle.meaning.specs.AnswerSet.{generates, generating}
use Rattle.meaning.specs.Choice.{ifb, agree}
use Rattle.meaning.specs.Colours.{heads, all_in, may_on, blocked, starved, uncoloured}
use Rattle.meaning.specs.Written.{of, add_from, added, stamp_from}
use Rattle.meaning.specs.Computed.{iterate, upheld, support_more, support, goes_off, close_more, marked, stamped, close}
use Rattle.meaning.specs.Lowest.{one_or, lowest_from, lowest, clashed}
use Rattle.walk.specs.Events.{after, events_in, events}
use Rattle.walk.specs.Readings.{readings_in}
use Rattle.walk.specs.Run.{row_from, row_of}
use Rattle.walk.specs.Shown.{alike, shown_after, shown_events}
use Rattle.walk.specs.FirstAlike.{avoided, avoiding, same_reading, first_among}
use Rattle.walk.specs.declared.verdict.Verdict.{Verdict}
use Rattle.walk.specs.declared.verdict.Verdict.TheVariants.{This, Another}

abbrev unless-rule : ℕ → ℕ → Rule
unless-rule a c = record { head = atom_no a; pos = []; neg = atom_no c ∷ [] }

abbrev pairs : Book
pairs = record {
  atoms = 6;
  rules = unless-rule 0 1 ∷ unless-rule 1 0 ∷ unless-rule 2 3 ∷ unless-rule 3 2 ∷ unless-rule 4 5 ∷ unless-rule 5 4 ∷ [];
}

-- the tries of the walk and the rows of the readings that count
pub record Counted : Type 0 where
  pub tries : ℕ
  pub rows : List (List ℕ)

abbrev counted : List ℕ → Counted
counted s = record {
  tries = length (shown_events pairs (map atom_no s));
  rows = map (row_of pairs) (readings_in pairs (shown_events pairs (map atom_no s)));
}

abbrev row : List (List ℕ) → Counted
row l = record { tries = 15; rows = l }

-- the first pair shown; the last pair shown, by one of its atoms; nothing shown
abbrev pub lists : List (List ℕ)
lists = (0 ∷ 1 ∷ []) ∷ (4 ∷ []) ∷ [] ∷ []

pub shown-cases : map counted lists ≡
    row ((1 ∷ 0 ∷ 1 ∷ 0 ∷ 1 ∷ 0 ∷ []) ∷ (0 ∷ 1 ∷ 1 ∷ 0 ∷ 1 ∷ 0 ∷ []) ∷ [])
    ∷ row ((1 ∷ 0 ∷ 1 ∷ 0 ∷ 1 ∷ 0 ∷ []) ∷ (1 ∷ 0 ∷ 1 ∷ 0 ∷ 0 ∷ 1 ∷ []) ∷ [])
    ∷ row ((1 ∷ 0 ∷ 1 ∷ 0 ∷ 1 ∷ 0 ∷ []) ∷ []) ∷ []
unfolding every some every_below some_below same_atom count rule every_rule some_rule generates generating ifb heads all_in may_on blocked starved
    uncoloured of add_from added stamp_from iterate upheld support_more support goes_off close_more marked stamped close agree one_or lowest_from
    lowest clashed
    after events_in events readings_in row_from row_of alike shown_after shown_events
shown-cases = refl

-- all shown: every reading counts
pub all-shown-case : length (counted (0 ∷ 1 ∷ 2 ∷ 3 ∷ 4 ∷ 5 ∷ [])).rows ≡ 8
unfolding every some every_below some_below same_atom count rule every_rule some_rule generates generating ifb heads all_in may_on blocked starved
    uncoloured of add_from added stamp_from iterate upheld support_more support goes_off close_more marked stamped close agree one_or lowest_from
    lowest clashed
    after events_in events readings_in row_from row_of alike shown_after shown_events
all-shown-case = refl

-- ---- the search: its walk from a reading's own colouring has fewer tries, and tells the first from another

abbrev with : List ℕ → Atoms
with l a = some (same_atom a) (map atom_no l)

pub record Searched : Type 0 where
  pub tries : ℕ
  pub verdict : Verdict

abbrev searched : List ℕ → List ℕ → Searched
searched s l = record {
  tries = length (events pairs (avoiding pairs (map atom_no s) (with l)));
  verdict = first_among pairs (map atom_no s) (with l) (readings_in pairs (events pairs (avoiding pairs (map atom_no s) (with l))));
}

pub search-cases : searched (0 ∷ 1 ∷ []) (1 ∷ 2 ∷ 4 ∷ []) ∷ searched (0 ∷ 1 ∷ []) (1 ∷ 2 ∷ 5 ∷ []) ∷ []
    ≡ record { tries = 7; verdict = This } ∷ record { tries = 7; verdict = Another } ∷ []
unfolding every some every_below some_below same_atom count rule every_rule some_rule generates generating ifb heads all_in may_on blocked starved
    uncoloured of add_from added stamp_from iterate upheld support_more support goes_off close_more marked stamped close agree one_or lowest_from
    lowest clashed
    after events_in events readings_in alike avoided avoiding same_reading first_among
search-cases = refl
