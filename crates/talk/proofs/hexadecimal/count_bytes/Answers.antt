-- `count_bytes` goes through the choices of its definition in their order.
use mathlib.Core.Path.{sym, ◌∙◌}
use native.Mathlib.Omega.{arith}
use Rattle.talk.specs.Hexadecimal.{decoded_of}
use Rattle.meaning.proofs.Choice.{b-yes, b-no, lt_yes, lt_no, eq_yes, eq_no}
use Rattle.talk.proofs.hexadecimal.count_bytes.Goals as goal
use Rattle.talk.proofs.hexadecimal.count_bytes.Goals.{then-word-eq0-via-then-word-eq0, then-word-eq0-via-else-word-eq0+then-word-eq1-2, then-room-n-via-then-room-n, then-room-n-via-else-room-n+then-not-all_digits}

pub returns-then-word-eq45-clause-value : goal.returns-then-word-eq45-clause-value
unfolding decoded_of
returns-then-word-eq45-clause-value c = sym (eq_yes _ _ _ _ (omega arith) ∙ eq_yes _ _ _ _ (omega arith))

pub returns-else-word-eq45-clause-value : goal.returns-else-word-eq45-clause-value
unfolding decoded_of
returns-else-word-eq45-clause-value c = sym (eq_yes _ _ _ _ (omega arith) ∙ eq_no _ _ _ _ (λ e. omega arith))

pub returns-then-word-eq0-clause-value : goal.returns-then-word-eq0-clause-value
unfolding decoded_of
returns-then-word-eq0-clause-value c =
    sym (eq_no _ _ _ _ (λ e. omega arith) ∙ elim c.then-word-eq0.branch [
      | then-word-eq0-via-then-word-eq0 w ↦ eq_yes _ _ _ _ (omega arith)
      | then-word-eq0-via-else-word-eq0+then-word-eq1-2 w ↦ eq_no _ _ _ _ (λ e. omega arith) ∙ eq_yes _ _ _ _ (omega arith)
    ])

pub returns-then-room-n-clause-value : goal.returns-then-room-n-clause-value
unfolding decoded_of
returns-then-room-n-clause-value c =
    sym (eq_no _ _ _ _ (λ e. omega arith) ∙ eq_no _ _ _ _ (λ e. omega arith) ∙ eq_no _ _ _ _ (λ e. omega arith)
    ∙ elim c.then-room-n.branch [
      | then-room-n-via-then-room-n w ↦ lt_yes _ _ _ _ (omega arith)
      | then-room-n-via-else-room-n+then-not-all_digits w ↦ lt_no _ _ _ _ (omega arith) ∙ b-no _ _ _ (sym w.all_digits.ensures ∙ w.if-not-all_digits.true)
    ])

pub returns-clause-value : goal.returns-clause-value
unfolding decoded_of
returns-clause-value c =
    sym (eq_no _ _ _ _ (λ e. omega arith) ∙ eq_no _ _ _ _ (λ e. omega arith) ∙ eq_no _ _ _ _ (λ e. omega arith)
    ∙ lt_no _ _ _ _ (omega arith) ∙ b-yes _ _ _ (sym c.all_digits.ensures ∙ c.if-not-all_digits.false))
