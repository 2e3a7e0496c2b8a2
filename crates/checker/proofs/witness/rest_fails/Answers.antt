-- Every rule below r is listed or fails, until one is neither.
use borrow.Author.Rules.{rules}
use native.Mathlib.Omega.{arith}
use mathlib.Core.Path.{sym, ◌∙◌}
use Rattle.meaning.specs.Sets.{every_below}
use Rattle.meaning.specs.Books.{rule_no}
use Rattle.meaning.specs.Bits.{listed}
use Rattle.meaning.specs.Written.{of}
use Rattle.meaning.proofs.Tests.{neither, or_left, or_right}
use Rattle.meaning.proofs.Sets.{all-next}
use Rattle.book.proofs.Places.{shape-count, shape-in}
use Rattle.checker.proofs.WitnessChecked.{rest-stops, rest_end}
use Rattle.checker.proofs.witness.rest_fails.Goals as goal
use Rattle.checker.proofs.witness.rest_fails.Goals.{else-not-has-via-then-not-has+else-not-fails_in, else-not-has-via-else-not-has}

pub loop-r-init : goal.loop-r-init
unfolding every_below
loop-r-init c = search rules

pub returns-then-not-fails_in : goal.returns-then-not-fails_in
returns-then-not-fails_in c =
    sym (rest-stops _ _ (rule_no c.loop-r.r) (shape-in _ _ c.args.book.now.read_as (rule_no c.loop-r.r)
    (omega arith))
    (neither (sym c.has.ensures ∙ c.if-not-has.true)
    (sym c.fails_in.ensures ∙ c.if-not-fails_in.true)))

pub loop-r-preserved : goal.loop-r-preserved
loop-r-preserved c =
    all-next _ _ (elim c.else-not-has.branch [
      | else-not-has-via-then-not-has+else-not-fails_in w ↦ or_right (of (listed c.args.set.now.w) (rule_no c.loop-r.r)) (sym w.fails_in.ensures ∙ w.if-not-fails_in.false)
      | else-not-has-via-else-not-has w ↦ or_left _ (sym c.has.ensures ∙ w.if-not-has.false)
    ]) c.loop-r.invariant

pub returns : goal.returns
returns c =
    sym (rest_end _ _ _ (omega (arith, shape-count _ _ c.args.book.now.read_as)) c.loop-r.invariant)
