-- What the first branch comes to is told: its refusal, or the place where it ends, or what the witness comes to.
use mathlib.Core.Path.{◌∙◌}
use Rattle.std.proofs.lemmas.Result.{err_from_is_err_and}
use Rattle.checker.specs.Check.{branch_told}
use Rattle.checker.proofs.PaperChecked.{steps-are, told-gap, told-wrong, told-fine}
use Rattle.checker.proofs.paper.check_steps.Goals as goal

pub returns-in_err-end : goal.returns-in_err-end
unfolding branch_told
returns-in_err-end c =
    let p = err_from_is_err_and c.from_residual.result c.from_residual.ensures.1 in
    rw (p.1, p.2) (steps-are _ _ _ _ _ c.empty.ensures c.in_err-end.ensures.0)

pub returns-then-end-trailer : goal.returns-then-end-trailer
returns-then-end-trailer c = told-gap _ _ _ _ _ _ c.if-end-trailer.true ∙ steps-are _ _ _ _ _ c.empty.ensures c.in_ok-end.ensures.0

-- ---- behind the witness, which starts where the branch ends
pub returns-in-Err : goal.returns-in-Err
returns-in-Err c =
    told-wrong _ _ _ _ _ _ c.if-end-trailer.false c.in-Err.ensures ∙ steps-are _ _ _ _ _ c.empty.ensures c.in_ok-end.ensures.0

pub returns-in-Ok : goal.returns-in-Ok
returns-in-Ok c =
    told-fine _ _ _ _ _ _ c.if-end-trailer.false c.in-Ok.ensures ∙ steps-are _ _ _ _ _ c.empty.ensures c.in_ok-end.ensures.0
