-- After r rules the table has the rows of those.
use Prim.Native.Nat.{ℕ}
use native.Mathlib.Omega.{arith}
use lib.ListN.{length-replicate}
use borrow.Author.Rules.{rules}
use Rattle.book.proofs.RowStores.{rows_none, rows_more, rows_end}
use Rattle.book.proofs.rowed.RowedBook.of.Goals as goal

pub loop-r-init : goal.loop-r-init
loop-r-init c = (length-replicate {A = ℕ} 3072 0, rows_none _)

pub enter_rule-requires : goal.enter_rule-requires
enter_rule-requires c = (omega arith, c.loop-r.invariant.0)

pub loop-r-preserved : goal.loop-r-preserved
loop-r-preserved c = (c.enter_rule.ensures.1, rows_more _ c.loop-r.r _ _ c.loop-r.invariant.1 c.enter_rule.ensures.0)

pub invariant_of-result : goal.invariant_of-result
invariant_of-result c = record {
  rowed =
      rows_end _ c.args.book.shape c.args.book.read_as (search rules) c.loop-r.r _ (omega arith) c.loop-r.invariant.0 c.loop-r.invariant.1;
}
