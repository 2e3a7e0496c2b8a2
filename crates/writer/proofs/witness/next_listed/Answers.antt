-- The lowest rule that may be listed next: no rule before may be.
use native.Mathlib.Omega.{arith}
use mathlib.Core.Path.{sym, ◌∙◌}
use Rattle.book.proofs.Places.{shape-count}
use Rattle.writer.proofs.Searches.{none_found, none_at_all}
use Rattle.writer.proofs.witness.next_listed.Goals as goal

pub returns-then-may_list : goal.returns-then-may_list
returns-then-may_list c =
    none_found _ c.loop-r.invariant _ (shape-count _ _ c.args.book.now.read_as) (omega arith) (sym c.may_list.ensures ∙ c.if-may_list.true)

pub returns : goal.returns
returns c = none_at_all _ c.loop-r.invariant _ (shape-count _ _ c.args.book.now.read_as) (omega arith)
