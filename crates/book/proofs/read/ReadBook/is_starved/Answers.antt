-- The nested search: outside, what is asked of the body is what is asked of the atoms that are left; inside, the rules so far that have
-- the atom as head are off. The search goes on by label at a rule that is not off, and is left by label at the first atom without one.
use mathlib.Core.Path.{sym, ◌∙◌}
use native.Mathlib.Omega.{arith}
use borrow.Author.Tests.{eqb-true, eqb-false}
use Rattle.meaning.specs.Bits.{listed}
use Rattle.meaning.specs.Written.{of}
use Rattle.meaning.proofs.Tests.{or_left}
use Rattle.book.specs.Format.{book_in}
use Rattle.book.proofs.AtomSets.{all-at-none, all-at-skip, all-at-other, all-at-end}
use Rattle.book.proofs.Bodies.{some_end, some_turn, some-part, not-all-in}
use Rattle.book.proofs.Places.{shape-count}
use Rattle.book.proofs.read.ReadBook.is_starved.Goals as goal
use Rattle.book.proofs.read.ReadBook.is_starved.Goals.{then-not-has+else-eq, else-not-has}

pub loop-q-init : goal.loop-q-init
loop-q-init c = all-at-none _ _ 0 _

pub atoms-preserved : goal.atoms-preserved
atoms-preserved c =
    let n = shape-count _ c.args.self.now.shape c.args.self.now.read_as in
    let e = not-all-in (book_in c.args.self.now.bytes.now) (of (listed c.args.off.now.w)) c.loop-q.q _ _ (omega arith)
    c.head.ensures (eqb-true _ _ (sym c.eq.ensures ∙ c.if-eq.true)) (sym c.has.ensures ∙ c.if-not-has.true) in (
      c.atoms.invariant.0 ∙ some_turn _ c.positives-body.result.now c.atoms.a-index (omega arith) ∙ rw e,
      c.atoms.invariant.1,
    )

pub loop-q-preserved : goal.loop-q-preserved
loop-q-preserved c = elim c.if-not-has.branch [
  | then-not-has+else-eq w ↦ all-at-other _ _ c.loop-q.q _ _ w.head.ensures (eqb-false _ _ (sym w.eq.ensures ∙ w.if-eq.false)) c.loop-q.invariant
  | else-not-has w ↦ all-at-skip _ _ c.loop-q.q _ (sym c.has.ensures ∙ w.if-not-has.false) c.loop-q.invariant
]

pub returns-after-atoms : goal.returns-after-atoms
returns-after-atoms c =
    c.atoms.invariant.1
    ∙ sym
    (sym (some-part _ _ _ c.positives-body.ensures) ∙ c.atoms.invariant.0
    ∙ some_end _ c.positives-body.result.now c.atoms.a-index (omega arith))

pub returns-after-loop-q : goal.returns-after-loop-q
returns-after-loop-q c =
    let n = shape-count _ c.args.self.now.shape c.args.self.now.read_as in
    sym
    (sym (some-part _ _ _ c.positives-body.ensures) ∙ c.atoms.invariant.0
    ∙ some_turn _ c.positives-body.result.now c.atoms.a-index (omega arith)
    ∙ or_left _ (all-at-end _ _ c.loop-q.q _ (omega arith) c.loop-q.invariant))
