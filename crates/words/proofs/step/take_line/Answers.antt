-- What the line ends is closed, and the next line is due.
use Rattle.words.proofs.Lined.{lined}
use Rattle.words.proofs.step.take_line.Goals as goal

pub returns : goal.returns
returns c =
    lined _ _ _ _ _ _ _ _ _ c.end_line-ended.ensures c.close_rule-m.ensures c.pass_line.ensures
