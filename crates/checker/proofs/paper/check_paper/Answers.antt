-- The trailer decides: its refusal, or what is told of the steps behind it.
use mathlib.Core.Path.{◌∙◌}
use Rattle.std.proofs.lemmas.Result.{err_from_is_err_and}
use Rattle.book.specs.Format.{book_in}
use Rattle.book.proofs.Places.{shape-atoms}
use Rattle.checker.proofs.PaperChecked.{ends-fit}
use Rattle.checker.proofs.paper.check_paper.Goals as goal

pub returns-in_err-trailer : goal.returns-in_err-trailer
returns-in_err-trailer c =
    let p = err_from_is_err_and c.from_residual.result c.from_residual.ensures.1 in
    rw (p.1, p.2) (c.in_err-trailer.ensures _ (shape-atoms _ _ c.args.book.now.read_as)).told

pub check_steps-requires : goal.check_steps-requires
check_steps-requires c =
    let (fits, short) = ends-fit (c.read_trailer.ensures (book_in c.args.book.now.bytes.now) (shape-atoms _ _ c.args.book.now.read_as)) c.in_ok-trailer.was in
    (fits, short)

pub returns : goal.returns
returns c = c.check_steps.ensures ∙ (c.in_ok-trailer.ensures _ (shape-atoms _ _ c.args.book.now.read_as)).told
