-- The check of all records: what is asked of the whole book is what is asked of the records that are left, turn by turn.
use mathlib.Core.Path.{ap, sym, ◌∙◌}
use native.Mathlib.Omega.{arith}
use borrow.Author.Rules.{rules}
use Rattle.std.proofs.lemmas.Result.{err_from_is_err_and}
use Rattle.meaning.proofs.Choice.{eq_yes, eq_no}
use Rattle.book.specs.Checks.{checked}
use Rattle.book.proofs.Parts.{record-fine}
use Rattle.book.proofs.Shapes.{record-ends}
use Rattle.book.proofs.Turns.{records-end, records-turn, after-wrong, after-fine}
use Rattle.book.proofs.record.check_records.Goals as goal

pub returns-then-u16_at-start : goal.returns-then-u16_at-start
returns-then-u16_at-start c =
    sym
    (c.loop-rule.invariant.1 ∙ records-turn _ _ _ c.args.rules c.loop-rule.rule _ (omega arith)
    ∙ eq_no _ _ _ _ (λ e. omega arith))

pub returns-in_err-check_record : goal.returns-in_err-check_record
returns-in_err-check_record c =
    let p = err_from_is_err_and c.from_residual.result c.from_residual.ensures.1 in
    rw (p.1, p.2) (sym
    (c.loop-rule.invariant.1 ∙ records-turn _ _ _ c.args.rules c.loop-rule.rule _ (omega arith)
    ∙ eq_yes _ _ _ _ (omega arith)
    ∙ after-wrong _ _ _ c.check_record.ensures _ _ (ap checked c.in_err-check_record.was)))

-- a record found right ends before the index
pub record_length-start-requires : goal.record_length-start-requires
record_length-start-requires c = (record-fine _ _ _ (sym c.check_record.ensures ∙ ap checked c.in_ok-check_record.was)).room

pub overflow_add-start : goal.overflow_add-start
overflow_add-start c =
    let h =
    record-ends c.args.book.now _ c.args.index c.loop-rule.start (omega arith) (omega arith)
    (record-fine _ _ _ (sym c.check_record.ensures ∙ ap checked c.in_ok-check_record.was)) in
    search rules

pub loop-rule-preserved : goal.loop-rule-preserved
loop-rule-preserved c =
    let h =
    record-ends c.args.book.now _ c.args.index c.loop-rule.start (omega arith) (omega arith)
    (record-fine _ _ _ (sym c.check_record.ensures ∙ ap checked c.in_ok-check_record.was)) in (
      search rules,
      rw c.record_length-start.ensures
          (c.loop-rule.invariant.1 ∙ records-turn _ _ _ c.args.rules c.loop-rule.rule _ (omega arith)
          ∙ eq_yes _ _ _ _ (omega arith)
          ∙ after-fine _ _ _ c.check_record.ensures (ap checked c.in_ok-check_record.was)),
    )

pub returns-then-start-index : goal.returns-then-start-index
returns-then-start-index c =
    sym
    (c.loop-rule.invariant.1 ∙ records-end _ _ _ c.args.rules c.loop-rule.rule _ (omega arith)
    ∙ eq_no _ _ _ _ (λ e. omega arith))

pub returns : goal.returns
returns c =
    sym
    (c.loop-rule.invariant.1 ∙ records-end _ _ _ c.args.rules c.loop-rule.rule _ (omega arith)
    ∙ eq_yes _ _ _ _ (omega arith))
