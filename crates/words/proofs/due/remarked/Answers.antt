-- `remarked` goes through the choice of its definition.
use mathlib.Core.Path.{sym, ◌∙◌}
use Rattle.meaning.proofs.Choice.{b-yes, b-no}
use Rattle.words.specs.Moves.{remarked}
use Rattle.words.proofs.Dues.{due-told}
use Rattle.words.proofs.due.remarked.Goals as goal

pub returns-then-eq : goal.returns-then-eq
unfolding remarked
returns-then-eq c = sym (b-yes _ _ _ (sym (due-told _ _ _ c.eq.ensures) ∙ c.if-eq.true))

pub returns : goal.returns
unfolding remarked
returns c = sym (b-no _ _ _ (sym (due-told _ _ _ c.eq.ensures) ∙ c.if-eq.false))
