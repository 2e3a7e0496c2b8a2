-- Every reading counts where that is said; else it is asked whether this one is new.
use mathlib.Core.Path.{sym, ◌∙◌}
use Rattle.meaning.proofs.Tests.{true-and-false}
use Rattle.walk.proofs.Fresh.{counts-every, counts-fresh}
use Rattle.walk.proofs.counts.does_count.Goals as goal

pub returns-then-every : goal.returns-then-every
returns-then-every c = (c.if-every.true ∙ counts-every _ _ _ c.if-every.true _, record { kept = λ e. true-and-false c.if-every.true e })

pub is_new-requires : goal.is_new-requires
is_new-requires c =
    (c.requires.0, c.requires.1.kept c.if-every.false)

pub returns-else-every : goal.returns-else-every
returns-else-every c =
    let f = c.if-every.false in
    (c.is_new.ensures.0 ∙ sym (counts-fresh _ _ _ f _), record { kept = λ e. c.is_new.ensures.1 })
