-- The check of a record: each way out is one choice of the definition, in its order.
use mathlib.Core.Path.{ap, sym, ◌∙◌}
use native.Mathlib.Omega.{arith}
use Rattle.std.proofs.lemmas.Result.{err_from_is_err_and}
use Rattle.meaning.proofs.Choice.{lt_yes, lt_no}
use Rattle.book.specs.Checks.{checked}
use Rattle.book.specs.Format.{record_of}
use Rattle.book.proofs.Turns.{record-bytes, bytes-head, bytes-parts, after-wrong, after-fine}
use Rattle.book.proofs.record.check_record.Goals as goal

pub returns-then-part-lt3 : goal.returns-then-part-lt3
unfolding record_of
returns-then-part-lt3 c = sym (lt_yes _ _ _ _ (omega arith))

pub returns-then-p-gt16 : goal.returns-then-p-gt16
unfolding record_of
returns-then-p-gt16 c = sym (lt_no _ _ _ _ (omega arith) ∙ lt_yes _ _ _ _ (omega arith))

pub returns-then-n-gt16 : goal.returns-then-n-gt16
unfolding record_of
returns-then-n-gt16 c = sym (lt_no _ _ _ _ (omega arith) ∙ lt_no _ _ _ _ (omega arith) ∙ lt_yes _ _ _ _ (omega arith))

pub returns-then-part-end : goal.returns-then-part-end
unfolding record_of
returns-then-part-end c =
    sym
    (lt_no _ _ _ _ (omega arith) ∙ lt_no _ _ _ _ (omega arith) ∙ lt_no _ _ _ _ (omega arith)
    ∙ lt_yes _ _ _ _ (omega arith))

-- ---- the record has room, so its bytes decide

pub returns-then-atoms-part : goal.returns-then-atoms-part
returns-then-atoms-part c =
    sym
    (record-bytes _ _ _ _ _ c.wide-p.ensures.0 c.wide-n.ensures.0 (omega arith) (omega arith) (omega arith) (omega arith)
    ∙ bytes-head _ _ _ _ _ (omega arith))

pub returns-in_err-check_part : goal.returns-in_err-check_part
returns-in_err-check_part c =
    let p = err_from_is_err_and c.from_residual.result c.from_residual.ensures.1 in
    rw (p.1, p.2) (sym
    (record-bytes _ _ _ _ _ c.wide-p.ensures.0 c.wide-n.ensures.0 (omega arith) (omega arith) (omega arith) (omega arith)
    ∙ bytes-parts _ _ _ _ _ (omega arith)
    ∙ after-wrong _ _ _ c.check_part.ensures _ _ (ap checked c.in_err-check_part.was)))

pub returns : goal.returns
returns c =
    c.check_part-2.ensures
    ∙ sym
    (record-bytes _ _ _ _ _ c.wide-p.ensures.0 c.wide-n.ensures.0 (omega arith) (omega arith) (omega arith) (omega arith)
    ∙ bytes-parts _ _ _ _ _ (omega arith)
    ∙ after-fine _ _ _ c.check_part.ensures (ap checked c.in_ok-check_part.was))
