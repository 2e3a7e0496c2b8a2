-- A branch comes to what its steps and then its end or its split come to; a split to what its first branch comes to, or else its second.
-- The bytes left fall round the cycle.
use native.Mathlib.Omega.{arith}
use Prim.Native.Nat.{ℕ, ◌+◌}
use mathlib.Core.Path.{refl}
use Rattle.std.proofs.lemmas.Result.{err_from_is_err_and}
use Rattle.meaning.specs.Written.{written, pair}
use Rattle.meaning.proofs.Listed.{listed-long}
use Rattle.book.specs.Format.{book_in}
use Rattle.book.proofs.Places.{shape-count}
use Rattle.checker.specs.Branches.{Walked}
use Rattle.checker.proofs.BranchWalked.{run-from, run-leads, run_ends, run-refused, run-splits}
use Rattle.checker.proofs.BranchWalked.{Branches, Parted, split-refused, split_done}
use Rattle.explaining.proofs.branch.+explain_branch_explain_split.Given.{Over}
use Rattle.explaining.proofs.branch.+explain_branch_explain_split.Goals as goal
use Rattle.explaining.proofs.branch.+explain_branch_explain_split.Goals.{explain_split-After-explain_branch}

-- ---- explain_branch

pub explain_branch-explain_split-requires : goal.explain_branch-explain_split-requires
explain_branch-explain_split-requires g t c =
    let (f, e) = run-splits c.explain_run-ran.ensures c.in-Split.is in
    let h = run-from c.explain_run-ran.ensures in
    λ κs lives. (omega arith, (lives, (f, e)))

pub explain_branch-returns-in-End : goal.explain_branch-returns-in-End
explain_branch-returns-in-End g t c = run_ends c.explain_run-ran.ensures c.in-End.is

pub explain_branch-returns-in-Split : goal.explain_branch-returns-in-Split
explain_branch-returns-in-Split g t c = run-leads c.explain_run-ran.ensures c.explain_split.ensures

pub explain_branch-returns-in-Form : goal.explain_branch-returns-in-Form
explain_branch-returns-in-Form g t c = run-refused c.explain_run-ran.ensures 24 c.in-Form.is refl

pub explain_branch-returns-in-Fails : goal.explain_branch-returns-in-Fails
explain_branch-returns-in-Fails g t c = run-refused c.explain_run-ran.ensures 25 c.in-Fails.is refl

-- ---- explain_split

-- behind the first branch, which has come to w
parted : (g : Over) (t : ℕ) (c : explain_split-After-explain_branch g t) {w : Walked}
    → Branches (book_in c.args.paper.now.book.bytes.now) c.args.paper.now.trailer.claim c.args.paper.now.bytes.now
    c.args.paper.now.trailer.from (c.args.at + 2) (pair (written c.with.result)) w
    → Parted (book_in c.args.paper.now.book.bytes.now) c.args.paper.now.trailer.claim c.args.paper.now.bytes.now
    c.args.paper.now.trailer.from c.args.at c.args.r (written c.args.c) (written c.with.result) w
parted g t c h = record {
  within = c.requires.0;
  splits = c.requires.1;
  few = omega (arith, shape-count _ _ c.args.paper.now.book.read_as);
  on-long = listed-long _;
  off-long = listed-long _;
  on = c.with.ensures;
  comes = h;
}

pub explain_split-returns-in_err-next : goal.explain_split-returns-in_err-next
explain_split-returns-in_err-next g t c =
    let p = err_from_is_err_and c.from_residual.result c.from_residual.ensures.1 in
    rw (p.1, p.2)
    (split-refused (parted g t (goal.at.explain_split-returns-in_err-next g t c).After-explain_branch c.in_err-next.ensures) _ _ refl)

pub explain_split-returns : goal.explain_split-returns
explain_split-returns g t c =
    split_done (parted g t (goal.at.explain_split-returns g t c).After-explain_branch c.in_ok-next.ensures) _ refl _ c.with-2.ensures _
    c.explain_branch-2.ensures
