-- Three useless versions of a call with a list of shown atoms, which the demands must refuse, and the book at which they show it.
--
--   two_pairs         "0 if not 1; 1 if not 0; 2 if not 3; 3 if not 2": four readings in seven tries
--   ignores          takes no notice of the list
--   along g          goes along the events that g makes of a book and a list
--   last_events       compares a reading with the one just before only
--   leaves_out        leaves out the tries that meet a reading which does not count
use Rattle.std.specs.Prelude.{List, [], ◌∷◌, ℕ}
use Rattle.meaning.specs.declared.AtomNo.{AtomNo}
use Rattle.meaning.specs.Sets.{some}
use Rattle.meaning.specs.Books.{Atoms, Book}
use Rattle.meaning.specs.Choice.{ifb}
use Rattle.meaning.specs.Told.{refused_at, Answered}
use Rattle.meaning.specs.Written.{nothing}
use Rattle.book.specs.Format.{BookRead, good, bad, read_of}
use Rattle.walk.specs.Events.{Event, clash, fork, reading, quiet, events}
use Rattle.walk.specs.Readings.{reading_of}
use Rattle.walk.specs.Find.{find_of, find_along}
use Rattle.walk.specs.Shown.{alike, shown_events}
use Rattle.demands.specs.DemandShown.{Finder, atoms}

abbrev pub two_pairs : List ℕ
two_pairs =
    0 ∷ 0 ∷ 1 ∷ 1 ∷ 1 ∷ 0 ∷ 1 ∷ 0 ∷ 2 ∷ 0 ∷ 1 ∷ 3 ∷ 3 ∷ 0 ∷ 1 ∷ 2 ∷ 0 ∷ 0 ∷ 4 ∷ 0 ∷ 8 ∷ 0 ∷ 12 ∷ 0 ∷ 4 ∷ 4 ∷ 16 ∷ 0 ∷ 0x52 ∷ 0x42 ∷ []

abbrev pub ignores : Finder
ignores book k limit shown answer = find_of book k limit answer

unfoldable pub along_read : (Book → List AtomNo → List Event) → BookRead → ℕ → ℕ → List ℕ → List ℕ → Answered ℕ
along_read g (good n r index l) k limit shown answer =
    let b : Book = record { atoms = n; rules = l } in find_along b (g b (atoms shown)) k limit answer
along_read g (bad i at) k limit shown answer = record { told = refused_at i at; buffer = answer }

abbrev pub along : (Book → List AtomNo → List Event) → Finder
along g book k limit shown answer = along_read g (read_of book) k limit shown answer

unfoldable pub last_after : Book → List AtomNo → List Atoms → List Event → List Event
last_after b s before [] = []
last_after b s before (clash r ∷ es) = clash r ∷ last_after b s before es
last_after b s before (fork r ∷ es) = fork r ∷ last_after b s before es
last_after b s before (quiet ∷ es) = quiet ∷ last_after b s before es
last_after b s before (reading d ∷ es) =
    ifb (some (alike s (reading_of b d)) before) quiet (reading d) ∷ last_after b s (reading_of b d ∷ []) es

abbrev pub last_events : Book → List AtomNo → List Event
last_events b s = last_after b s [] (events b nothing)

unfoldable pub without_quiet : List Event → List Event
without_quiet [] = []
without_quiet (clash r ∷ es) = clash r ∷ without_quiet es
without_quiet (fork r ∷ es) = fork r ∷ without_quiet es
without_quiet (reading d ∷ es) = reading d ∷ without_quiet es
without_quiet (quiet ∷ es) = without_quiet es

abbrev pub leaves_out : Book → List AtomNo → List Event
leaves_out b s = without_quiet (shown_events b s)
