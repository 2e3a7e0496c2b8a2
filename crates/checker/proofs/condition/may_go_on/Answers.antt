-- The two tables are those by which the book's condition is the one of the meaning.
use native.Mathlib.Omega.{arith}
use mathlib.Core.Path.{◌∙◌}
use Rattle.book.proofs.Asked.{goes-on-may_on}
use Rattle.checker.proofs.condition.may_go_on.Goals as goal

pub returns : goal.returns
returns c =
    c.goes_on.ensures ∙ goes-on-may_on _ _ c.args.book.now.read_as (omega arith) _ c.requires _ _ c.heads_of.ensures _
    c.lost_in.ensures
