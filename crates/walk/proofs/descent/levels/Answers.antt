-- levels keeps its promise: the book refused, or the levels of a reading of a good one.
use mathlib.Core.Path.{ap}
use Rattle.std.proofs.lemmas.Result.{err_from_is_err_and}
use Rattle.book.specs.ReadBook.{shape_in}
use Rattle.walk.proofs.Leveled.{levels-refused, levels-read}
use Rattle.walk.proofs.descent.levels.Goals as goal

pub returns-in_err-read : goal.returns-in_err-read
returns-in_err-read c =
    let p = err_from_is_err_and c.from_residual.result c.from_residual.ensures.1 in
    rw (p.1, p.2) (levels-refused _ c.read.ensures.tells _ _ _ (ap shape_in c.in_err-read.was))

pub returns : goal.returns
returns c =
    levels-read _ c.read.ensures.tells _ _ _ (ap shape_in c.in_ok-read.was) (rw c.in_ok-read.ensures.bytes at c.levels_in.ensures)
