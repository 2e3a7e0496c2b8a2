-- Checking a paper against a book: the answer for every book and every paper. Document 01, "Numbers given back": "The checker reads the
-- book first, then 20 to 23, then steps in order, 24 before 25, then 26, 27."
--
--   stated k atoms n     the trailer's first byte n fits the claim
--   check_of book paper   the answer, of the bytes of both
use Rattle.std.specs.Prelude.{Bool, List, ℕ, suc, ◌+◌, ◌-◌, ltb, eqb, length, get_or}
use Rattle.meaning.specs.Books.{atom_no, Book}
use Rattle.meaning.specs.Colours.{start}
use Rattle.meaning.specs.declared.kind.Claim.{Claim}
use Rattle.meaning.specs.declared.kind.Claim.TheVariants.{About, NoReading}
use Rattle.meaning.specs.declared.kind.Marked.{Marked}
use Rattle.meaning.specs.declared.kind.Marked.TheVariants.{Of, Neither}
use Rattle.meaning.specs.declared.kind.Marked.TheVariants.{NoReading as OfNoReading}
use Rattle.meaning.specs.Claim.{claim, marked_by}
use Rattle.meaning.specs.Choice.{ifb, if_lt, if_eq}
use Rattle.meaning.specs.Told.{Told, success, refused_at}
use Rattle.meaning.specs.Paper.{paper_bytes}
use Rattle.book.specs.Format.{u16_at, BookRead, good, bad, read_of}
use Rattle.checker.specs.Branches.{Walked, done, wrong_at, branch_of}
use Rattle.checker.specs.Witness.{Check, fine, wrong, grounds_verdict}

-- the witness stands just behind the last 45, and is right
unfoldable pub witness_told : Claim → Check → Told Claim
witness_told k fine = success k
witness_told k (wrong at) = refused_at 27 at

unfoldable pub branch_told : Book → Claim → List ℕ → ℕ → ℕ → Walked → Told Claim
branch_told b k s w from (done at) = if_eq at from (witness_told k (grounds_verdict k b s from w)) (refused_at 26 at)
branch_told b k s w from (wrong_at i at) = refused_at i at

-- the steps, with the claim that the paper makes
unfoldable pub steps_told : Book → Claim → List ℕ → ℕ → ℕ → Told Claim
steps_told b k s w from = branch_told b k s w from (branch_of (suc from) b k s from 0 start)

-- whether the trailer's first byte n fits the claim: "claimed atom not below A"; where no atom is claimed it is 0
unfoldable pub stated : Claim → ℕ → ℕ → Bool
stated (About q a) atoms n = ltb a.0 atoms
stated NoReading atoms n = eqb n 0

-- a paper of this claim, with the trailer's witness count w and witness start
unfoldable pub trailer_told : Book → Claim → List ℕ → ℕ → ℕ → Told Claim
trailer_told b k s w from =
    if_eq (from + w + 6) (length s)
    (ifb (stated k b.atoms (get_or s (length s - 6) 0)) (steps_told b k s w from) (refused_at 23 (length s - 6)))
    (refused_at 22 (length s - 4))

-- the mark tells the kind of claim, and the trailer its atom; or that there is no answer set
unfoldable pub marked_told : Book → List ℕ → Marked → Told Claim
marked_told b s (Of q) = trailer_told b (claim q (atom_no (get_or s (length s - 6) 0))) s (get_or s (length s - 5) 0) (u16_at s (length s - 4))
marked_told b s OfNoReading = trailer_told b NoReading s (get_or s (length s - 5) 0) (u16_at s (length s - 4))
marked_told b s Neither = refused_at 21 (length s - 2)

unfoldable pub paper_of : Book → List ℕ → Told Claim
paper_of b s =
    if_lt (length s) 6 (refused_at 20 0)
    (if_lt paper_bytes (length s) (refused_at 20 0)
    (marked_told b s (marked_by (get_or s (length s - 2) 0) (get_or s (length s - 1) 0))))

unfoldable pub check_read : BookRead → List ℕ → Told Claim
check_read (good n k index l) paper = paper_of (record { atoms = n; rules = l }) paper
check_read (bad i at) paper = refused_at i at

unfoldable pub check_of : List ℕ → List ℕ → Told Claim
check_of book paper = check_read (read_of book) paper
