-- The first i bytes are right, the tables hold their rules and the heads of these, and the rest decides.
use native.Mathlib.Omega.{arith}
use mathlib.Core.Path.{sym, ◌∙◌}
use Prim.Native.Nat.{ℕ}
use lib.ListN.{replicate}
use Rattle.meaning.proofs.Four.{members-nothing}
use Rattle.meaning.proofs.Listed.{listed-empty}
use Rattle.book.proofs.Bodies.{every-part}
use Rattle.book.proofs.Asked.{pos-small}
use Rattle.book.proofs.Places.{shape-count, head_small, pos-below}
use Rattle.checker.proofs.WitnessChecked.{ordered-start, ordered_end, stops-number, stops-again, stops-positive}
use Rattle.checker.proofs.WitnessChecked.{ordered-next}
use Rattle.checker.proofs.witness.check_order.Goals as goal
use Rattle.checker.proofs.witness.check_order.Goals.{then-book-n-via-then-book-n, then-book-n-via-else-book-n+then-has}
use Rattle.checker.proofs.witness.check_order.Goals.{then-book-n-via-else-book-n+else-has+then-not-every_in}

pub loop-i-init : goal.loop-i-init
loop-i-init c = ordered-start _ _ _ _ (listed-empty (replicate {A = ℕ} 4 0) members-nothing)

pub every_in-requires : goal.every_in-requires
every_in-requires c =
    pos-below _ _ c.args.book.now.read_as _ (omega arith) (omega arith) _ c.positives.ensures

pub returns-then-book-n : goal.returns-then-book-n
returns-then-book-n c =
    let o = c.loop-i.invariant in
    sym (elim c.then-book-n.branch [
      | then-book-n-via-then-book-n w ↦ stops-number o (omega arith) (omega (arith, shape-count _ _ c.args.book.now.read_as))
      | then-book-n-via-else-book-n+then-has w ↦ stops-again o (omega arith) (sym w.has.ensures ∙ w.if-has.true)
      | then-book-n-via-else-book-n+else-has+then-not-every_in w ↦
          stops-positive o (omega arith) (pos-small _ _ c.args.book.now.read_as (omega arith) _ (omega arith))
          (sym (every-part _ _ _ w.positives.ensures) ∙ sym w.every_in.ensures ∙ w.if-not-every_in.true)
    ])

pub bounds-headed-wide : goal.bounds-headed-wide
bounds-headed-wide c = omega (arith, head_small _ _ c.args.book.now.read_as _ (omega arith) (omega arith) _ c.head.ensures)

pub loop-i-preserved : goal.loop-i-preserved
loop-i-preserved c =
    let e = shape-count _ _ c.args.book.now.read_as in
    ordered-next c.loop-i.invariant (omega arith) (pos-small _ _ c.args.book.now.read_as (omega arith) _ (omega arith)) (omega arith) (omega arith)
    (sym c.has.ensures ∙ c.if-has.false)
    (sym (every-part _ _ _ c.positives.ensures) ∙ sym c.every_in.ensures ∙ c.if-not-every_in.false) _ c.put.ensures _ _
    c.wide.ensures.0 c.head.ensures (head_small _ _ c.args.book.now.read_as _ (omega arith) (omega arith) _ c.head.ensures)

pub returns : goal.returns
returns c = sym (ordered_end c.loop-i.invariant (omega arith))
