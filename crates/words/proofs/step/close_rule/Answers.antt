-- The rule that a line closes is added; no other line adds one.
use Rattle.words.proofs.Lined.{closed-blank, closed-missing, closed-rule}
use Rattle.words.proofs.step.close_rule.Goals as goal

pub returns-in-Nothing : goal.returns-in-Nothing
returns-in-Nothing c = closed-blank _ _ _ _ c.in-Nothing.is

pub returns-in-Rule : goal.returns-in-Rule
returns-in-Rule c =
    closed-rule _ _ _ _ c.in-Rule.is _ _ c.add_rule.ensures

pub returns-in-Missing : goal.returns-in-Missing
returns-in-Missing c = closed-missing _ _ _ _ c.in-Missing.is
