-- The branches of the engine's own paper, in their order. Document 01, "The engine's own paper": "Each branch, the first included, counts
-- as one try."
--
--   branch b k c     the branch that starts with the pair c: its bytes, and how it ends
--   branches b k c   that branch and those below it, in the order of the paper; their bytes, one after the other, are the paper's steps
--
-- The lists are never built: they say what the writer does.
use Rattle.std.specs.Prelude.{List, [], ◌∷◌, ◌++◌, ℕ, zero, suc, ◌+◌, length}
use Rattle.meaning.specs.declared.RuleNo.{RuleNo}
use Rattle.meaning.specs.Books.{Book, count}
use Rattle.meaning.specs.Colours.{Pair, on_side, off_side, put}
use Rattle.meaning.specs.declared.kind.Claim.{Claim}
use Rattle.meaning.specs.Paper.{numbers, code_on, code_off, code_unfounded, code_split, code_end}
use Rattle.meaning.specs.Engine.{Next, ends, puts-on, puts-off, drops, splits, stuck, next}

-- how a branch ends: with its 45, with a split of the pair, or in that "the atom isn't certain"
pub data Tip : Type 0 where
  ended : Tip
  parted : RuleNo → Pair → Tip
  unsettled : Tip

pub record Branch : Type 0 where
  pub bytes : List ℕ
  pub tip : Tip

unfoldable pub behind : List ℕ → Branch → Branch
behind l t = record { bytes = l ++ t.bytes; tip = t.tip }

unfoldable pub branch_by : Pair → Next → (Pair → Branch) → Branch
branch_by c ends further = record { bytes = code_end ∷ []; tip = ended }
branch_by c (puts-on r) further = behind (code_on ∷ (r.0 ∷ [])) (further (put on_side (r ∷ []) c))
branch_by c (puts-off r) further = behind (code_off ∷ (r.0 ∷ [])) (further (put off_side (r ∷ []) c))
branch_by c (drops l) further = behind (code_unfounded ∷ (length l ∷ numbers l)) (further (put off_side l c))
branch_by c (splits r) further = record { bytes = code_split ∷ (r.0 ∷ []); tip = parted r c }
branch_by c stuck further = record { bytes = []; tip = unsettled }

-- in at most n steps
unfoldable pub branch_in : ℕ → Book → Claim → Pair → Branch
branch_in zero b k c = record { bytes = []; tip = unsettled }
branch_in (suc n) b k c = branch_by c (next b k c) (λ d. branch_in n b k d)

-- each step colours a rule, so one step more than there are rules and sides is enough
unfoldable pub branch : Book → Claim → Pair → Branch
branch b k c = branch_in (suc (count b + count b)) b k c

-- the branches below a tip: "a branch with r on follows, then a branch with r off, which starts from the colouring before the split"
unfoldable pub below : Tip → (Pair → List Branch) → List Branch
below ended further = []
below unsettled further = []
below (parted r c) further = further (put on_side (r ∷ []) c) ++ further (put off_side (r ∷ []) c)

-- through at most n levels
unfoldable pub branches_in : ℕ → Book → Claim → Pair → List Branch
branches_in zero b k c = []
branches_in (suc n) b k c = branch b k c ∷ below (branch b k c).tip (λ d. branches_in n b k d)

-- each split colours a rule, so one level more than there are rules is enough
unfoldable pub branches : Book → Claim → Pair → List Branch
branches b k c = branches_in (suc (count b)) b k c
