-- A branch comes to what its steps and then its end or its split come to; a split to what its first branch comes to, or else its second.
-- The bytes left fall round the cycle.
use native.Mathlib.Omega.{arith}
use Prim.Native.Nat.{ℕ, ◌+◌}
use mathlib.Core.Path.{refl}
use Rattle.std.proofs.lemmas.Result.{err_from_is_err_and}
use Rattle.meaning.specs.Written.{written, pair}
use Rattle.meaning.proofs.Listed.{listed-long}
use Rattle.book.specs.Format.{book_in}
use Rattle.book.proofs.Places.{shape-count}
use Rattle.checker.specs.Branches.{Walked}
use Rattle.checker.proofs.BranchWalked.{run-from, run-leads, run_ends, run-refused, run-splits}
use Rattle.checker.proofs.BranchWalked.{Branches, Parted, split-refused, split_done}
use Rattle.checker.proofs.branch.+branch_split.Goals as goal
use Rattle.checker.proofs.branch.+branch_split.Goals.{split-After-branch-book}

-- ---- branch

pub branch-split-requires : goal.branch-split-requires
branch-split-requires t c =
    let (f, e) = run-splits c.run_steps-ran.ensures c.in-Split.is in
    let h = run-from c.run_steps-ran.ensures in
    (omega arith, (c.requires, f, e))

pub branch-returns-in-End : goal.branch-returns-in-End
branch-returns-in-End t c = run_ends c.run_steps-ran.ensures c.in-End.is

pub branch-returns-in-Split : goal.branch-returns-in-Split
branch-returns-in-Split t c = run-leads c.run_steps-ran.ensures c.split.ensures

pub branch-returns-in-Form : goal.branch-returns-in-Form
branch-returns-in-Form t c = run-refused c.run_steps-ran.ensures 24 c.in-Form.is refl

pub branch-returns-in-Fails : goal.branch-returns-in-Fails
branch-returns-in-Fails t c = run-refused c.run_steps-ran.ensures 25 c.in-Fails.is refl

-- ---- split

-- behind the first branch, which has come to w
parted : (t : ℕ) (c : split-After-branch-book t) {w : Walked}
    → Branches (book_in c.args.book.now.bytes.now) c.args.trailer.claim c.args.paper.now c.args.trailer.from (c.args.at + 2)
    (pair (written c.with.result)) w
    → Parted (book_in c.args.book.now.bytes.now) c.args.trailer.claim c.args.paper.now c.args.trailer.from c.args.at c.args.r
    (written c.args.c) (written c.with.result) w
parted t c h = record {
  within = c.requires.1;
  splits = c.requires.2;
  few = omega (arith, shape-count _ _ c.args.book.now.read_as);
  on-long = listed-long _;
  off-long = listed-long _;
  on = c.with.ensures;
  comes = h;
}

pub split-returns-in_err-next : goal.split-returns-in_err-next
split-returns-in_err-next t c =
    let p = err_from_is_err_and c.from_residual.result c.from_residual.ensures.1 in
    rw (p.1, p.2) (split-refused (parted t (goal.at.split-returns-in_err-next t c).After-branch-book c.in_err-next.ensures) _ _ refl)

pub split-returns : goal.split-returns
split-returns t c =
    split_done (parted t (goal.at.split-returns t c).After-branch-book c.in_ok-next.ensures) _ refl _ c.with-2.ensures _
    c.branch-book-2.ensures
