-- The candidates below the one at which the search stands have had their look.
use mathlib.Core.Path.{refl}
use native.Mathlib.Omega.{arith}
use lib.ListN.{replicate}
use Rattle.meaning.specs.Books.{rule_no}
use Rattle.meaning.specs.Bits.{listed}
use Rattle.meaning.specs.Written.{of}
use Rattle.meaning.proofs.Four.{members-nothing}
use Rattle.closing.specs.News.{atom_set}
use Rattle.closing.proofs.Good.{good-book, good-count, good-in}
use Rattle.closing.proofs.Raising.{less-listed, onward-start, onward-turn, onward-end, raised-off}
use Rattle.closing.proofs.propagation.raise.Goals as goal

pub loop-r-init : goal.loop-r-init
loop-r-init c =
    ((0, c.next_in-r.ensures), onward-start _ (of (listed c.args.off.now.w)) (of (listed c.args.on.now.w)) (atom_set c.args.nt.now.w) _ _ c.next_in-r.ensures)

pub loop-r-preserved : goal.loop-r-preserved
loop-r-preserved c =
    let g = good-book c.args.rowed.now.book in (
      (_, c.next_in-r-in-loop-r.ensures),
      onward-turn _ (of (listed c.args.off.now.w)) _ (of (listed c.args.on.now.w)) (atom_set c.args.nt.now.w) _ c.loop-r.r _ c.loop-r.invariant.1
          c.next_in-r-in-loop-r.ensures (good-in g (rule_no c.loop-r.r) (omega arith)) c.look_at.ensures,
    )

pub returns : goal.returns
returns c =
    let e = less-listed c.difference-todo.result.w _ _ c.args.cand.now.w c.args.on.now.w c.difference-todo.ensures refl
    refl in (
      raised-off _ (of (listed c.args.off.now.w)) (of (listed c.args.cand.now.w)) _ (of (listed c.args.on.now.w)) (atom_set c.args.nt.now.w) e
          (onward-end _ (of (listed c.args.off.now.w)) _ (of (listed c.args.on.now.w)) (atom_set c.args.nt.now.w) _ c.loop-r.r c.loop-r.invariant.1
          (omega (arith, good-count (good-book c.args.rowed.now.book))) (of (listed (replicate 4 0)))),
      members-nothing,
    )
