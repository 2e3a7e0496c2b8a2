-- The atoms below the one that is tried are counted.
use mathlib.Core.Path.{◌≡◌, ◌∙◌}
use native.Mathlib.Omega.{arith}
use borrow.Author.Rules.{rules}
use Rattle.book.specs.Making.{said_of}
use Rattle.book.proofs.AtomsFrom.{atoms-length}
use Rattle.book.proofs.Puts.{count_none, count-in, count-out}
use Rattle.book.proofs.making.count_atoms.Goals as goal
use Rattle.book.proofs.making.count_atoms.Goals.{then-said, else-said}

pub loop-said-init : goal.loop-said-init
loop-said-init c = count_none c.args.table.now

pub overflow_add-n : goal.overflow_add-n
overflow_add-n c =
    let h = atoms-length 0 c.loop-said.said-index (said_of c.args.table.now) in
    search rules

pub loop-said-preserved : goal.loop-said-preserved
loop-said-preserved c =
    let t = c.args.table.now in
    elim c.if-said.branch [
      | then-said w ↦ count-in t c.loop-said.said-index c.loop-said.invariant w.if-said.true w.n-is
      | else-said w ↦ count-out t c.loop-said.said-index c.loop-said.invariant w.if-said.false w.n-is
    ]

pub returns : goal.returns
returns c =
    let e : c.loop-said.said-index ≡ 255 = omega arith in
    c.loop-said.invariant ∙ rw e
