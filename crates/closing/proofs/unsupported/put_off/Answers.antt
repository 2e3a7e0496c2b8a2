-- The rules are joined, and the question is whether there is one.
use mathlib.Core.Path.{refl}
use Rattle.closing.proofs.Dropping.{some_in}
use Rattle.closing.proofs.unsupported.put_off.Goals as goal

pub returns : goal.returns
returns c =
    (c.join.ensures, some_in c.args.rest.now.w _ c.empty.result.w refl c.empty.ensures c.is_within.ensures)
