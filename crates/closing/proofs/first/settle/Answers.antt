-- settle keeps its promise: the book refused, or what is settled of a good one.
use mathlib.Core.Path.{ap, ◌∙◌}
use mathlib.Core.List.{List}
use Prim.Native.Nat.{ℕ}
use Rattle.std.proofs.lemmas.Result.{err_from_is_err_and}
use Rattle.book.specs.Format.{book_in}
use Rattle.book.specs.ReadBook.{shape_in}
use Rattle.closing.specs.Settle.{settle_in}
use Rattle.closing.proofs.Settling.{settle-refused, settle_read-good}
use Rattle.closing.proofs.first.settle.Goals as goal

pub returns-in_err-read : goal.returns-in_err-read
returns-in_err-read c =
    let p = err_from_is_err_and c.from_residual.result c.from_residual.ensures.1 in
    rw (p.1, p.2) (settle-refused _ c.read.ensures.tells _ (ap shape_in c.in_err-read.was))

pub returns : goal.returns
returns c =
    settle_read-good _ c.read.ensures.tells _ (ap shape_in c.in_ok-read.was)
    (c.settle_in.ensures ∙ ap (λ (l : List ℕ). settle_in (book_in l) c.args.out.now) c.in_ok-read.ensures.bytes)
