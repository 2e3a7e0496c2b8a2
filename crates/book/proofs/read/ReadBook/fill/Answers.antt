-- After r rules the table says what those of them say.
use mathlib.Core.Path.{◌≡◌, refl, sym, ◌∙◌}
use mathlib.Core.Bool.{Bool, true, false, not, beq, true≢false, false≢true}
use native.Mathlib.Omega.{arith}
use borrow.Author.Rules.{rules}
use Rattle.meaning.specs.Books.{rule_no}
use Rattle.book.proofs.AtomSets.{said-none, said-skip, said-store, said-end}
use Rattle.book.proofs.Places.{head_small, shape-count}
use Rattle.book.proofs.read.ReadBook.fill.Goals as goal
use Rattle.book.proofs.read.ReadBook.fill.Goals.{then-has-said, else-has-said}

-- what a comparison of two answers says
same : (a b : Bool) → beq a b ≡ true → a ≡ b
same true true e = refl
same true false e = absurd (false≢true e)
same false true e = absurd (false≢true e)
same false false e = refl

opposite : (a b : Bool) → beq a b ≡ false → a ≡ not b
opposite true true e = absurd (true≢false e)
opposite true false e = refl
opposite false true e = refl
opposite false false e = absurd (true≢false e)

pub loop-r-init : goal.loop-r-init
loop-r-init c = said-none _ _ c.args.said

pub bounds-out-a : goal.bounds-out-a
bounds-out-a c =
    let h = head_small _ c.args.self.now.shape c.args.self.now.read_as (rule_no c.loop-r.r) (omega arith) (search rules) _ c.head.ensures in
    search rules

pub loop-r-preserved : goal.loop-r-preserved
loop-r-preserved c = elim c.if-has-said.branch [
  | then-has-said w ↦ w.out-is
      ∙ said-store _ _ c.args.said _ _ w.head.ensures
      (head_small _ c.args.self.now.shape c.args.self.now.read_as (rule_no c.loop-r.r) (omega arith) (search rules) _ w.head.ensures)
      (sym c.has.ensures ∙ same _ _ w.if-has-said.true) _ _ c.loop-r.invariant w.wide-a.ensures.0
  | else-has-said w ↦ w.out-is ∙ c.loop-r.invariant ∙ said-skip _ _ c.args.said _ (sym c.has.ensures ∙ opposite _ _ w.if-has-said.false)
]

pub returns : goal.returns
returns c = c.loop-r.invariant ∙ said-end _ _ c.args.said _ (omega (arith, shape-count _ c.args.self.now.shape c.args.self.now.read_as))
