-- `read_rule` reads the head and the count, and then the body.
use native.Mathlib.Omega.{arith}
use Rattle.aspif.proofs.Scanned.{behind}
use Rattle.aspif.proofs.Lined.{rule-no-head, head-above, rule-no-count, rule-lined}
use Rattle.aspif.proofs.rule.read_rule.Goals as goal

pub returns-in_err-head : goal.returns-in_err-head
returns-in_err-head c = rw c.from_residual.ensures (rule-no-head _ _ _ _ _ c.read_item.ensures.result_value c.in_err-head.was)

pub read_item-requires-2 : goal.read_item-requires-2
read_item-requires-2 c = let (p, q, r) = behind c.read_item.ensures.behind c.in_ok-head.was in r

pub returns-in_err-count : goal.returns-in_err-count
returns-in_err-count c =
    rw c.from_residual-in_err-count.ensures
    (rule-no-count _ _ _ _ _ c.read_item.ensures.result_value c.in_ok-head.was _ c.read_item-2.ensures.result_value c.in_err-count.was)

pub read_body-requires : goal.read_body-requires
read_body-requires c =
    let (p, q, r) = behind c.read_item-2.ensures.behind c.in_ok-count.was in
    (r, head-above c.args.text.now c.args.at c.args.m c.args.draft.now _ c.read_item.ensures.result_value c.in_ok-head.was)

pub returns : goal.returns
returns c =
    let (p, q, r) = behind c.read_item-2.ensures.behind c.in_ok-count.was in
    let (i, j, k) = behind c.read_item.ensures.behind c.in_ok-head.was in
    rule-lined _ _ _ _ _ c.read_item.ensures.result_value c.in_ok-head.was _ c.read_item-2.ensures.result_value c.in_ok-count.was
    (omega arith) c.read_body.ensures
