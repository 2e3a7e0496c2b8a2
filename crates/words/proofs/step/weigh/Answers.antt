-- The word is looked for, its kind is found, and the rest is `decide`.
use mathlib.Core.Path.{refl, ◌∙◌}
use Rattle.words.specs.Progress.{weighed}
use Rattle.words.proofs.step.weigh.Goals as goal

pub returns : goal.returns
unfolding weighed
returns c =
    c.decide.ensures ∙ rw (c.move_of-m.ensures, c.term_of.ensures, c.number_of-a.ensures.0) refl
