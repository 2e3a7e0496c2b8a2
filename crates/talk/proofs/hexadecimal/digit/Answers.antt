-- `digit` goes through the choices of its definition in their order.
use mathlib.Core.Path.{sym, ◌∙◌}
use native.Mathlib.Omega.{arith}
use Rattle.talk.specs.Hexadecimal.{digit_of}
use Rattle.meaning.proofs.Choice.{lt_yes, lt_no}
use Rattle.talk.proofs.hexadecimal.digit.Goals as goal

pub returns-in-48-to-57 : goal.returns-in-48-to-57
unfolding digit_of
returns-in-48-to-57 c = sym (lt_no _ _ _ _ (omega arith) ∙ lt_yes _ _ _ _ (omega arith))

pub returns-in-65-to-70 : goal.returns-in-65-to-70
unfolding digit_of
returns-in-65-to-70 c = sym (lt_no _ _ _ _ (omega arith) ∙ lt_no _ _ _ _ (omega arith) ∙ lt_no _ _ _ _ (omega arith) ∙ lt_yes _ _ _ _ (omega arith))

pub returns-in-97-to-102 : goal.returns-in-97-to-102
unfolding digit_of
returns-in-97-to-102 c = sym (lt_no _ _ _ _ (omega arith) ∙ lt_no _ _ _ _ (omega arith) ∙ lt_no _ _ _ _ (omega arith) ∙ lt_no _ _ _ _ (omega arith) ∙ lt_no _ _ _ _ (omega arith) ∙ lt_yes _ _ _ _ (omega arith))

pub returns-in_default : goal.returns-in_default
unfolding digit_of
returns-in_default c = sym (lt_yes _ _ _ _ (omega arith))

pub returns-in_default-2 : goal.returns-in_default-2
unfolding digit_of
returns-in_default-2 c = sym (lt_no _ _ _ _ (omega arith) ∙ lt_no _ _ _ _ (omega arith) ∙ lt_yes _ _ _ _ (omega arith))

pub returns-in_default-3 : goal.returns-in_default-3
unfolding digit_of
returns-in_default-3 c = sym (lt_no _ _ _ _ (omega arith) ∙ lt_no _ _ _ _ (omega arith) ∙ lt_no _ _ _ _ (omega arith) ∙ lt_no _ _ _ _ (omega arith) ∙ lt_yes _ _ _ _ (omega arith))

pub returns-in_default-4 : goal.returns-in_default-4
unfolding digit_of
returns-in_default-4 c = sym (lt_no _ _ _ _ (omega arith) ∙ lt_no _ _ _ _ (omega arith) ∙ lt_no _ _ _ _ (omega arith) ∙ lt_no _ _ _ _ (omega arith) ∙ lt_no _ _ _ _ (omega arith) ∙ lt_no _ _ _ _ (omega arith))
