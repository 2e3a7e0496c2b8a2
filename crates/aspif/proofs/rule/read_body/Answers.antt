-- `read_body` reads both parts and the line end, and adds the rule.
use mathlib.Core.Path.{◌∙◌}
use Rattle.aspif.proofs.Lined.{body-no-end, body-other-count, body-lined, seen-rises}
use Rattle.aspif.proofs.rule.read_body.Goals as goal

pub returns-in_err-next : goal.returns-in_err-next
returns-in_err-next c =
    rw c.from_residual.ensures
    (body-no-end _ _ _ _ _ _ c.read_part-p.ensures c.read_part-n.ensures _ c.skip_text.ensures.result_value c.in_err-next.was)

pub returns-then-count-p : goal.returns-then-count-p
returns-then-count-p c =
    body-other-count _ _ _ _ _ _ c.read_part-p.ensures c.read_part-n.ensures _ c.skip_text.ensures.result_value
    c.in_ok-next.was c.if-count-p.true

pub returns : goal.returns
returns c =
    let x = c.read_part-p.ensures in
    let y = c.read_part-n.ensures in
    body-lined _ _ _ _ _ _ x y _ c.skip_text.ensures.result_value c.in_ok-next.was c.if-count-p.false c.skip_text.ensures.reaches
    (c.keep_rule-made.ensures _ _ (seen-rises x) x.table (seen-rises y) y.table) c.requires.1
    (c.max-2.ensures ∙ rw c.max.ensures)
