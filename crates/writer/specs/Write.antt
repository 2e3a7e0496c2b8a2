-- What a call for a paper answers, and what its buffer holds afterwards. Document 01, "Numbers given back": "Naming: 13; then answer set 1
-- with limit L (9, 11); then the paper's walk with a fresh L (9, 12); then 14."; document 02, request 2: "18, in the place of 12, when an
-- answer set holds the atom". A paper that the book has no reading needs no walk to answer set 1: the paper's walk with L (9, 38), then 14.
-- What is common is said once, over the claim.
--
--   told             an answer's number and values, case by case
--   lacking q        the number where a claim of this kind fails of an answer set; failing k: where the claim k does
--   witnessed, unwitnessed   the answer to a claim that stands on an answer set, and to one that doesn't, of a good book
--   write_of book k limit paper   the answer and the buffer, of the bytes of the book and of the buffer before
--   name_of, clear_of, contradict_of   the same, for one claim each
use Rattle.std.specs.Prelude.{List, [], ℕ, length, Result, Ok, Err}
use Rattle.meaning.specs.declared.AtomNo.{AtomNo}
use Rattle.meaning.specs.Books.{Book}
use Rattle.meaning.specs.Colours.{start}
use Rattle.meaning.specs.declared.kind.Kind.{Kind}
use Rattle.meaning.specs.declared.kind.Kind.TheVariants.{Naming, Clearing}
use Rattle.meaning.specs.declared.kind.Claim.{Claim}
use Rattle.meaning.specs.declared.kind.Claim.TheVariants.{About, NoReading}
use Rattle.meaning.specs.Claim.{named, cleared}
use Rattle.meaning.specs.Choice.{if_lt}
use Rattle.meaning.specs.Told.{Told, success, refused_at, refused, fewer, stopped, Answered}
use Rattle.meaning.specs.Paper.{paper_bytes, paper_with}
use Rattle.book.specs.Numbers.{number_of, place_of}
use Rattle.book.specs.Format.{BookRead, good, bad, read_of}
use Rattle.meaning.specs.Buffers.{write_at}
use Rattle.walk.specs.Run.{State}
use Rattle.walk.specs.Find.{first_walk}
use Rattle.walk.specs.Page.{set_in}
use Rattle.walk.specs.declared.tally.Halt.{Halt}
use Rattle.walk.specs.declared.tally.Halt.TheVariants.{Going, Full, Limit}
use Rattle.writer.specs.Branches.{branches}
use Rattle.writer.specs.Scan.{Course, writing, limited, refuted, Progress, scan}
use Rattle.writer.specs.PaperNeeds.{whole_paper}
use Rattle.writer.specs.declared.answer.Unwritten.{Unwritten}
use Rattle.writer.specs.declared.answer.Unwritten.TheVariants.{Fewer, Stopped, NotCertain, NotClear, HasReading, NoAtom, TooLong}
use Rattle.writer.specs.declared.answer.Unwritten.TheVariants.{Book as BadBook}

-- success tells the tries of the paper's walk and the paper's length
pub record Handed : Type 0 where
  pub tries : ℕ
  pub size : ℕ

abbrev pub paper : ℕ → ℕ → Told Handed
paper tries size = success (record { tries = tries; size = size })

-- 11 tells all tries of the first walk, and that there are no sets
abbrev pub told : Result (ℕ × ℕ) Unwritten → Told Handed
told (Ok (tries, size)) = paper tries size
told (Err (Fewer tries rule)) = fewer tries 0 rule.0
told (Err (Stopped limit)) = stopped limit
told (Err (BadBook f)) = refused_at (number_of f) (place_of f)
told (Err NotCertain) = refused 12
told (Err NotClear) = refused 18
told (Err HasReading) = refused 38
told (Err NoAtom) = refused 13
told (Err TooLong) = refused 14

unfoldable pub lacking : Kind → ℕ
lacking Naming = 12
lacking Clearing = 18

unfoldable pub failing : Claim → ℕ
failing (About q a) = lacking q
failing NoReading = 38

-- the paper's walk
unfoldable pub paper_walk : Book → Claim → ℕ → Progress
paper_walk b k limit = scan limit (record { tries = 0; bytes = []; course = writing }) (branches b k start)

-- "14: engine's paper longer than the buffer or 60,000"
unfoldable pub hand_over : ℕ → List ℕ → List ℕ → Answered Handed
hand_over tries whole buffer =
    if_lt (length buffer) (length whole) (record { told = refused 14; buffer = buffer })
    (if_lt paper_bytes (length whole) (record { told = refused 14; buffer = buffer })
    (record { told = paper tries (length whole); buffer = write_at 0 whole buffer }))

-- behind the paper's walk, which came to this course with these tries, and to this paper if it came to its end
unfoldable pub after_paper_walk : Course → Claim → ℕ → ℕ → List ℕ → List ℕ → Answered Handed
after_paper_walk writing k limit tries whole buffer = hand_over tries whole buffer
after_paper_walk limited k limit tries whole buffer = record { told = stopped limit; buffer = buffer }
after_paper_walk refuted k limit tries whole buffer = record { told = refused (failing k); buffer = buffer }

unfoldable pub after_first_walk : Halt → Book → Claim → ℕ → State → List ℕ → Answered Handed
after_first_walk Going b k limit s buffer = record { told = fewer s.tally.tries 0 s.tally.clash.0; buffer = buffer }
after_first_walk Full b k limit s buffer =
    let p = paper_walk b k limit in
    after_paper_walk p.course k limit p.tries (whole_paper b k p.bytes (set_in s.out)) buffer
after_first_walk Limit b k limit s buffer = record { told = stopped limit; buffer = buffer }

-- the walk to answer set 1, then the paper's walk, with that set's witness
unfoldable pub witnessed : Book → Claim → ℕ → List ℕ → Answered Handed
witnessed b k limit buffer = let s = first_walk b limit in after_first_walk s.tally.halt b k limit s buffer

-- the paper's walk, and no witness
unfoldable pub unwitnessed : Book → Claim → ℕ → List ℕ → Answered Handed
unwitnessed b k limit buffer =
    let p = paper_walk b k limit in after_paper_walk p.course k limit p.tries (paper_with k p.bytes []) buffer

unfoldable pub write_in : Book → Claim → ℕ → List ℕ → Answered Handed
write_in b (About q a) limit buffer =
    if_lt a.0 b.atoms (witnessed b (About q a) limit buffer) (record { told = refused 13; buffer = buffer })
write_in b NoReading limit buffer = unwitnessed b NoReading limit buffer

unfoldable pub write_read : BookRead → Claim → ℕ → List ℕ → Answered Handed
write_read (good n r index l) k limit buffer = write_in (record { atoms = n; rules = l }) k limit buffer
write_read (bad i at) k limit buffer = record { told = refused_at i at; buffer = buffer }

unfoldable pub write_of : List ℕ → Claim → ℕ → List ℕ → Answered Handed
write_of book k limit buffer = write_read (read_of book) k limit buffer

abbrev pub name_of : List ℕ → AtomNo → ℕ → List ℕ → Answered Handed
name_of book a = write_of book (named a)

abbrev pub clear_of : List ℕ → AtomNo → ℕ → List ℕ → Answered Handed
clear_of book a = write_of book (cleared a)

abbrev pub contradict_of : List ℕ → ℕ → List ℕ → Answered Handed
contradict_of book = write_of book NoReading
