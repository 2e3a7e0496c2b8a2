-- A branch of a paper, checked step by step. Document 01: "A branch is steps up to its 45 or its split, and a split is two branches."
--
--   branch_of f b k s from at c   the branch at byte `at`, with the pair c, in at most f steps
--   BranchTo b k s from at c w   the answer w, whatever number of steps beyond the bytes left is allowed
use Rattle.std.specs.Prelude.{◌≡◌, List, [], ◌∷◌, ℕ, zero, suc, ◌-◌, ◌<◌}
use Rattle.meaning.specs.Books.{Book}
use Rattle.meaning.specs.Colours.{Pair, on_side, off_side, put}
use Rattle.meaning.specs.declared.kind.Claim.{Claim}
use Rattle.checker.specs.Steps.{Stepped, goes, parts, ends, fails, step_of}

-- a branch that ends before a place, or a refusal's number and place
pub data Walked : Type 0 where
  done : ℕ → Walked
  wrong_at : ℕ → ℕ → Walked

unfoldable pub and_then : Walked → (ℕ → Walked) → Walked
and_then (done at) f = f at
and_then (wrong_at i at) f = wrong_at i at

-- what follows a step at byte `at` with the pair c, where `further` checks the branch at a place with a pair. The second branch of a
-- split starts from the pair before it.
unfoldable pub after_step : ℕ → Pair → Stepped → (ℕ → Pair → Walked) → Walked
after_step at c (goes next d) further = further next d
after_step at c (parts next r) further = and_then (further next (put on_side (r ∷ []) c)) (λ m. further m (put off_side (r ∷ []) c))
after_step at c (ends next) further = done next
after_step at c (fails i) further = wrong_at i at

unfoldable pub branch_of : ℕ → Book → Claim → List ℕ → ℕ → ℕ → Pair → Walked
branch_of zero b k s from at c = wrong_at 24 at
branch_of (suc f) b k s from at c = after_step at c (step_of b k s from at c) (λ next d. branch_of f b k s from next d)

-- each step takes a byte at least, so more steps than bytes left are enough
abbrev pub BranchTo : Book → Claim → List ℕ → ℕ → ℕ → Pair → Walked → Type 0
BranchTo b k s from at c w = (f : ℕ) → from - at < f → w ≡ branch_of f b k s from at c
