-- `read_plain` goes through the choices of its definition in their order.
use mathlib.Core.Path.{sym, ◌∙◌}
use native.Mathlib.Omega.{arith}
use Rattle.decimal.specs.Digits.{plain_of}
use Rattle.meaning.proofs.Choice.{eq_yes, eq_no}
use Rattle.decimal.proofs.read_plain.Goals as goal

pub returns-then-word-eq0 : goal.returns-then-word-eq0
unfolding plain_of
returns-then-word-eq0 c = sym (eq_yes _ _ _ _ (omega arith))

pub returns-then-word-eq1 : goal.returns-then-word-eq1
unfolding plain_of
returns-then-word-eq1 c = c.read_digits.ensures ∙ sym (eq_no _ _ _ _ (λ e. omega arith) ∙ eq_yes _ _ _ _ (omega arith))

pub returns-then-word-eq48 : goal.returns-then-word-eq48
unfolding plain_of
returns-then-word-eq48 c = sym (eq_no _ _ _ _ (λ e. omega arith) ∙ eq_no _ _ _ _ (λ e. omega arith) ∙ eq_yes _ _ _ _ (omega arith))

pub returns : goal.returns
unfolding plain_of
returns c =
    c.read_digits-2.ensures ∙ sym (eq_no _ _ _ _ (λ e. omega arith) ∙ eq_no _ _ _ _ (λ e. omega arith)
    ∙ eq_no _ _ _ _ (λ e. omega arith))
