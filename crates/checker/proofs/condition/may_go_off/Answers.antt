-- The table of heads says of each negative atom what the rules say.
use native.Mathlib.Omega.{arith}
use mathlib.Core.Path.{◌∙◌}
use Rattle.checker.proofs.Conditions.{negative-some}
use Rattle.checker.proofs.condition.may_go_off.Goals as goal

pub returns : goal.returns
returns c =
    c.is_blocked.ensures ∙ negative-some _ _ c.args.book.now.read_as (omega arith) _ c.requires _ _
    c.heads_of.ensures
