-- `take_word` does as it was decided.
use mathlib.Core.Path.{ap, sym, ◌∙◌}
use Rattle.words.specs.Progress.{on_weighed}
use Rattle.words.proofs.Able.{weighed-able}
use Rattle.words.proofs.step.take_word.Goals as goal

pub take-requires : goal.take-requires
take-requires c =
    let a = c.args in
    weighed-able a.text.now _ a.r c.requires.2 _ _ (sym c.in-Ok.ensures)

pub returns-in-Ok : goal.returns-in-Ok
unfolding on_weighed
returns-in-Ok c =
    let a = c.args in
    c.take.ensures ∙ ap (λ x. on_weighed x a.r a.from a.to) c.in-Ok.ensures

pub returns-in-Err : goal.returns-in-Err
unfolding on_weighed
returns-in-Err c =
    let a = c.args in
    c.stop.ensures ∙ ap (λ x. on_weighed x a.r a.from a.to) c.in-Err.ensures
