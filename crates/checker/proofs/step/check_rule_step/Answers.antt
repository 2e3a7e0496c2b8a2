-- One law for each way through the code. The step's rule, once read, is in the book, and the step ends before the witness; then the code
-- says which condition is asked of it.
use native.Mathlib.Omega.{arith}
use mathlib.Core.Path.{sym, ◌∙◌, ap}
use Rattle.meaning.specs.Colours.{blocked}
use Rattle.book.specs.Format.{book_in}
use Rattle.book.proofs.Places.{shape-count}
use Rattle.checker.proofs.StepChecked.{Ruled, rule-late, rule-out, on-asks, off-asks, split-asks, rule-holds, rule-fails}
use Rattle.checker.proofs.StepChecked.{code-unknown}
use Rattle.checker.proofs.step.check_rule_step.Goals as goal
use Rattle.checker.proofs.step.check_rule_step.Goals.{then-trailer-at-via-then-trailer-at, then-trailer-at-via-else-trailer-at+then-book-paper}
use Rattle.checker.proofs.step.check_rule_step.Goals.{Else-book-paper, in-65, in-66, in-83}

-- the rule is read
ruled : (c : Else-book-paper) → Ruled (book_in c.args.book.now.bytes.now) c.args.paper.now c.args.trailer.from c.args.at
ruled c = record {
  here = c.requires.1;
  not-list = c.requires.2;
  not_end = c.requires.3;
  room = omega arith;
  known = omega (arith, shape-count _ _ c.args.book.now.read_as);
}

pub returns-then-trailer-at : goal.returns-then-trailer-at
returns-then-trailer-at c = elim c.then-trailer-at.branch [
  | then-trailer-at-via-then-trailer-at w ↦ rule-late _ _ _ _ _ _ c.requires.1 c.requires.2 c.requires.3 (omega arith)
  | then-trailer-at-via-else-trailer-at+then-book-paper w ↦
      rule-out _ _ _ _ _ _ c.requires.1 c.requires.2 c.requires.3 (omega arith) (omega (arith, shape-count _ _ c.args.book.now.read_as))
]

pub returns-in_default : goal.returns-in_default
returns-in_default c = code-unknown _ _ _ _ _ _ (ruled (goal.at.returns-in_default c).Else-book-paper) (omega arith) (omega arith) (omega arith)

pub returns-then-holds : goal.returns-then-holds
unfolding blocked
returns-then-holds c =
    let p = ruled (goal.at.returns-then-holds c).Else-book-paper in
    elim c.match-code.branch [
      | in-65 w ↦
          let e = sym (ap (λ x. x.0) w.holds-is) ∙ c.if-holds.true in
          rw w.holds-is (rule-holds _ _ _ _ _ _ p (on-asks _ _ _ _ _ _ p (omega arith)) _ w.may_go_on.ensures e)
      | in-66 w ↦
          let e = sym (ap (λ x. x.0) w.holds-is) ∙ c.if-holds.true in
          rw w.holds-is (rule-holds _ _ _ _ _ _ p (off-asks _ _ _ _ _ _ p (omega arith)) _ w.may_go_off.ensures e)
      | in-83 w ↦
          let e = sym (ap (λ x. x.0) w.holds-is) ∙ c.if-holds.true in
          rw w.holds-is (rule-holds _ _ _ _ _ _ p (split-asks _ _ _ _ _ _ p (omega arith)) _ w.is_uncoloured.ensures e)
    ]

pub returns-else-holds : goal.returns-else-holds
unfolding blocked
returns-else-holds c =
    let p = ruled (goal.at.returns-else-holds c).Else-book-paper in
    elim c.match-code.branch [
      | in-65 w ↦
          let e = sym (ap (λ x. x.0) w.holds-is) ∙ c.if-holds.false in
          rule-fails _ _ _ _ _ _ p (on-asks _ _ _ _ _ _ p (omega arith)) _ w.may_go_on.ensures e
      | in-66 w ↦
          let e = sym (ap (λ x. x.0) w.holds-is) ∙ c.if-holds.false in
          rule-fails _ _ _ _ _ _ p (off-asks _ _ _ _ _ _ p (omega arith)) _ w.may_go_off.ensures e
      | in-83 w ↦
          let e = sym (ap (λ x. x.0) w.holds-is) ∙ c.if-holds.false in
          rule-fails _ _ _ _ _ _ p (split-asks _ _ _ _ _ _ p (omega arith)) _ w.is_uncoloured.ensures e
    ]
