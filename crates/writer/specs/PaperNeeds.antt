-- The branches that the paper's walk needs, and its paper, told from the branches alone. Document 01: "Each branch, the first included,
-- counts as one try. A branch with no step left, all rules coloured and 45 not allowed settles that the atom isn't certain, and the walk
-- stops there."
--
--   settled t                the branch t ends with its 45 or with a split
--   Stuck b k n              the paper's walk gets stuck, and that at its n-th branch
--   PaperNeeds b k n              the paper's walk needs n branches: up to the one where it gets stuck, or all of them
--   steps_of l                the bytes of the branches, one after the other
--   whole_paper b k steps x   the paper of these steps with the witness of the answer set x
--   paper_for b k x           the engine's own paper with that witness
--   bare_for b k              the engine's own paper without a witness
use Rattle.std.specs.Prelude.{◌≡◌, true, false, List, [], ◌∷◌, ◌++◌, ℕ, ◌+◌, length}
use Rattle.meaning.specs.Sets.{Set, ◌∉◌, every}
use Rattle.meaning.specs.Books.{Atoms, Book}
use Rattle.meaning.specs.Colours.{start}
use Rattle.meaning.specs.declared.kind.Claim.{Claim}
use Rattle.meaning.specs.Paper.{paper_with}
use Rattle.meaning.specs.Engine.{witness_of}
use Rattle.writer.specs.Branches.{Tip, ended, parted, unsettled, Branch, branches}

unfoldable pub settles : Set Tip
settles ended = true
settles (parted r c) = true
settles unsettled = false

abbrev pub settled : Set Branch
settled t = settles t.tip

pub record Stuck (b : Book) (k : Claim) (n : ℕ) : Type 0 where
  pub earlier : List Branch
  pub last : Branch
  pub later : List Branch
  pub walk : branches b k start ≡ earlier ++ (last ∷ later)
  pub number : n ≡ length earlier + 1
  pub earlier-settled : every settled earlier ≡ true
  pub last-unsettled : last ∉ settled

pub data PaperNeeds (b : Book) (k : Claim) : ℕ → Type 0 where
  to-stuck : {n : ℕ} → Stuck b k n → PaperNeeds b k n
  to_last : every settled (branches b k start) ≡ true → PaperNeeds b k (length (branches b k start))

unfoldable pub steps_of : List Branch → List ℕ
steps_of [] = []
steps_of (t ∷ l) = t.bytes ++ steps_of l

unfoldable pub whole_paper : Book → Claim → List ℕ → Atoms → List ℕ
whole_paper b k steps x = paper_with k steps (witness_of b x)

unfoldable pub paper_for : Book → Claim → Atoms → List ℕ
paper_for b k x = whole_paper b k (steps_of (branches b k start)) x

unfoldable pub bare_for : Book → Claim → List ℕ
bare_for b k = paper_with k (steps_of (branches b k start)) []
