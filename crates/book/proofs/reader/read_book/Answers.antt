-- Reading a book: each way out is one choice of the definition, in its order; the last two are what the records tell.
use mathlib.Core.Path.{ap, ◌∙◌}
use native.Mathlib.Omega.{arith}
use Rattle.std.proofs.lemmas.Result.{err_from_is_err_and}
use Rattle.meaning.proofs.Choice.{lt_yes, lt_no, eq_yes, eq_no}
use Rattle.book.specs.Checks.{checked}
use Rattle.book.specs.Format.{body_of, read_of}
use Rattle.book.proofs.Turns.{told-bad, marked, unmarked, FrameRead, read-wrong, read-fine}
use Rattle.book.proofs.reader.read_book.Goals as goal

pub returns-then-len-lt6 : goal.returns-then-len-lt6
unfolding read_of
returns-then-len-lt6 c = told-bad _ _ _ (lt_yes _ _ _ _ (omega arith))

pub returns-then-len-gt-BOOK_BYTES : goal.returns-then-len-gt-BOOK_BYTES
unfolding read_of
returns-then-len-gt-BOOK_BYTES c = told-bad _ _ _ (lt_no _ _ _ _ (omega arith) ∙ lt_yes _ _ _ _ (omega arith))

pub returns-then-not-ends_with : goal.returns-then-not-ends_with
unfolding read_of
returns-then-not-ends_with c =
    told-bad _ _ _
    (lt_no _ _ _ _ (omega arith) ∙ lt_no _ _ _ _ (omega arith)
    ∙ unmarked c.args.book.now (omega arith) c.ends_with.ensures.value c.if-not-ends_with.true _ _)

pub returns-then-index-count : goal.returns-then-index-count
unfolding read_of body_of
returns-then-index-count c =
    let m = marked c.args.book.now (omega arith) c.ends_with.ensures.value c.if-not-ends_with.false in
    told-bad _ _ _
    (lt_no _ _ _ _ (omega arith) ∙ lt_no _ _ _ _ (omega arith) ∙ eq_yes _ _ _ _ (omega arith)
    ∙ eq_yes _ _ _ _ (omega arith) ∙ eq_no _ _ _ _ (λ e. omega arith))

-- ---- the records are found, behind a length, a mark and a trailer that are right

pub returns-in_err-check_records : goal.returns-in_err-check_records
returns-in_err-check_records c =
    let m = marked c.args.book.now (omega arith) c.ends_with.ensures.value c.if-not-ends_with.false in
    let p = err_from_is_err_and c.from_residual.result c.from_residual.ensures.1 in
    let framed : FrameRead c.args.book.now c.wide-count.result c.u16_at-index.result =
    record {
      count = c.wide-count.ensures.0;
      start = c.u16_at-index.ensures.0;
      least = omega arith;
      most = omega arith;
      first = omega arith;
      second = omega arith;
      fills = omega arith;
    } in
    rw (p.1, p.2)
    (read-wrong framed _ c.check_records.ensures _ _ (ap checked c.in_err-check_records.was))

pub returns : goal.returns
returns c =
    let m = marked c.args.book.now (omega arith) c.ends_with.ensures.value c.if-not-ends_with.false in
    let framed : FrameRead c.args.book.now c.wide-count.result c.u16_at-index.result =
    record {
      count = c.wide-count.ensures.0;
      start = c.u16_at-index.ensures.0;
      least = omega arith;
      most = omega arith;
      first = omega arith;
      second = omega arith;
      fills = omega arith;
    } in
    read-fine framed _ c.check_records.ensures (ap checked c.in_ok-check_records.was)
