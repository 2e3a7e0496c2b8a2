-- The set holds what it held and the first rules of the list.
use native.Mathlib.Omega.{arith}
use Rattle.meaning.specs.Bits.{listed}
use Rattle.meaning.specs.Written.{of}
use Rattle.meaning.proofs.Listed.{listed-long}
use Rattle.checker.proofs.Lists.{add_none, add-put}
use Rattle.checker.proofs.list.with_rules.Goals as goal

pub loop-n-init : goal.loop-n-init
loop-n-init c = add_none _

pub loop-n-preserved : goal.loop-n-preserved
loop-n-preserved c =
    let i = c.loop-n.n-index in
    add-put (of (listed c.args.set.w)) _ _ c.args.list.now i (omega arith) (omega (arith, c.requires.at i (omega arith), listed-long c.loop-n.all.w))
    c.put.ensures c.loop-n.invariant
