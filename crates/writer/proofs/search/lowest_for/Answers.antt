-- The lowest rule that may go to a side and isn't there: no rule before the one tried is of that kind.
use mathlib.Core.Path.{sym, ◌∙◌}
use native.Mathlib.Omega.{arith}
use Rattle.book.proofs.Places.{shape-count}
use Rattle.writer.proofs.Searches.{none_more, none_found, none_at_all, sifts-yes, sifts-not, sifts-in, new-sifts}
use Rattle.writer.proofs.search.lowest_for.Goals as goal
use Rattle.writer.proofs.search.lowest_for.Goals.{else-not-has-via-then-not-has+else-may_go, else-not-has-via-else-not-has}

pub returns-then-may_go : goal.returns-then-may_go
returns-then-may_go c =
    none_found _ c.loop-r.invariant _ (shape-count _ _ c.args.book.now.read_as) (omega arith)
    (sifts-yes (new-sifts _ _ _ _ _) c.may_go.ensures c.if-may_go.true (sym c.has.ensures ∙ c.if-not-has.true))

pub loop-r-preserved : goal.loop-r-preserved
loop-r-preserved c = none_more _ c.loop-r.invariant (elim c.else-not-has.branch [
  | else-not-has-via-then-not-has+else-may_go w ↦ sifts-not (new-sifts _ _ _ _ _) w.may_go.ensures w.if-may_go.false
  | else-not-has-via-else-not-has w ↦ sifts-in (new-sifts _ _ _ _ _) (sym c.has.ensures ∙ w.if-not-has.false)
])

pub returns : goal.returns
returns c = none_at_all _ c.loop-r.invariant _ (shape-count _ _ c.args.book.now.read_as) (omega arith)
