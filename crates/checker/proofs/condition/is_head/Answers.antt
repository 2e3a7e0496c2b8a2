-- No rule of the set below r has the atom as head, until one is found.
use borrow.Author.Rules.{rules}
use native.Mathlib.Omega.{arith}
use mathlib.Core.Path.{sym, ◌∙◌}
use borrow.Author.Tests.{eqb-true, eqb-false}
use Rattle.meaning.specs.Sets.{some_below}
use Rattle.meaning.specs.Books.{rule_no}
use Rattle.meaning.specs.Bits.{listed}
use Rattle.meaning.specs.Written.{of}
use Rattle.meaning.proofs.Sets.{none-next, none_end}
use Rattle.book.proofs.Places.{shape-count, shape-in}
use Rattle.checker.proofs.Conditions.{head-here, head-other, head-out, head-none}
use Rattle.checker.proofs.condition.is_head.Goals as goal
use Rattle.checker.proofs.condition.is_head.Goals.{else-has-via-then-has+else-eq, else-has-via-else-has}

pub loop-r-init : goal.loop-r-init
unfolding some_below
loop-r-init c = search rules

pub returns-then-eq : goal.returns-then-eq
returns-then-eq c =
    sym (head-here _ (of (listed c.args.set.now.w)) _ _ c.loop-r.r c.head.ensures
    (shape-in _ _ c.args.book.now.read_as (rule_no c.loop-r.r) (omega arith)) (sym c.has.ensures ∙ c.if-has.true) (eqb-true _ _ (sym c.eq.ensures ∙ c.if-eq.true)))

pub loop-r-preserved : goal.loop-r-preserved
loop-r-preserved c =
    none-next _ _ (elim c.else-has.branch [
      | else-has-via-then-has+else-eq w ↦ head-other _ (of (listed c.args.set.now.w)) _ _ c.loop-r.r w.head.ensures (eqb-false _ _ (sym w.eq.ensures ∙ w.if-eq.false))
      | else-has-via-else-has w ↦ head-out _ (of (listed c.args.set.now.w)) _ c.loop-r.r (sym c.has.ensures ∙ w.if-has.false)
    ]) c.loop-r.invariant

pub returns : goal.returns
returns c =
    sym (head-none _ _ _ _ (shape-count _ _ c.args.book.now.read_as) (none_end _ _ _ (omega arith) (omega arith) c.loop-r.invariant))
