-- The open rule's rules are added, and its helpers counted.
use Rattle.lparse.proofs.Formed.{forms-shut}
use Rattle.lparse.proofs.form.close_rule.Goals as goal

pub returns : goal.returns
returns c = forms-shut _ c.helper_behind.ensures c.add_open.ensures
