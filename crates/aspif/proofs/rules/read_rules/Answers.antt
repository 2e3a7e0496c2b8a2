-- `read_rules` reads line by line.
use native.Mathlib.Omega.{arith}
use Rattle.aspif.proofs.Lined.{lines_start, lines_end, lines-behind, lines_more}
use Rattle.aspif.proofs.rules.read_rules.Goals as goal

pub loop-made-init : goal.loop-made-init
loop-made-init c = lines_start _ _ c.requires.0 (c.nothing-making.ensures _ c.requires.1)

pub read_rule-requires : goal.read_rule-requires
read_rule-requires c = c.loop-made.invariant.inside

pub returns-in_default : goal.returns-in_default
returns-in_default c =
    lines_end _ _ c.loop-made.invariant c.read_rule.ensures c.in_default.is

pub loop-made-smaller : goal.loop-made-smaller
loop-made-smaller c =
    let (h, k) = lines-behind _ _ c.loop-made.invariant c.read_rule.ensures c.in-Some.is in omega arith

pub loop-made-preserved : goal.loop-made-preserved
loop-made-preserved c =
    lines_more _ _ c.loop-made.invariant c.read_rule.ensures c.in-Some.is c.max-top.ensures
