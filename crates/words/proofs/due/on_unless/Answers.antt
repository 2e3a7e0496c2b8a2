-- `on_unless` goes through the choice of its definition.
use mathlib.Core.Path.{sym, ◌∙◌}
use Rattle.meaning.proofs.Choice.{b-yes, b-no}
use Rattle.words.specs.Moves.{on_unless}
use Rattle.words.proofs.Dues.{due-told}
use Rattle.words.proofs.due.on_unless.Goals as goal

pub returns-then-eq : goal.returns-then-eq
unfolding on_unless
returns-then-eq c = sym (b-yes _ _ _ (sym (due-told _ _ _ c.eq.ensures) ∙ c.if-eq.true))

pub returns : goal.returns
unfolding on_unless
returns c = c.only_at.ensures ∙ sym (b-no _ _ _ (sym (due-told _ _ _ c.eq.ensures) ∙ c.if-eq.false))
