-- `export` reads the book, and hands its text over.
use mathlib.Core.List.{[]}
use native.Mathlib.Omega.{arith}
use Rattle.std.proofs.lemmas.Result.{err_from_is_err_and}
use Rattle.aspif.proofs.Answering.{stored-front, export-refused, fits-draft, export-handed}
use Rattle.aspif.proofs.write.export.Goals as goal

pub returns-in_err-read : goal.returns-in_err-read
returns-in_err-read c =
    let p = err_from_is_err_and c.from_residual.result c.from_residual.ensures.1 in
    rw (p.1, p.2) (export-refused _ _ _ c.in_err-read.ensures.tells)

pub put_book-n-requires : goal.put_book-n-requires
put_book-n-requires c =
    fits-draft _ [] c.in_ok-read.read.read_as (λ i. rw c.in_ok-read.ensures.bytes (omega (arith, c.type_inv.book i)))

pub hand_over-requires : goal.hand_over-requires
hand_over-requires c =
    let stored = c.put_book-n.ensures in
    let short = fits-draft _ [] c.in_ok-read.read.read_as (λ i. rw c.in_ok-read.ensures.bytes (omega (arith, c.type_inv.book i))) in
    omega (arith, stored.ends, stored.long, short)

pub returns : goal.returns
returns c =
    let read = c.in_ok-read.read.read_as in
    let short = fits-draft _ [] read (λ i. rw c.in_ok-read.ensures.bytes (omega (arith, c.type_inv.book i))) in
    rw (← c.in_ok-read.ensures.bytes) (export-handed _ _ read (stored-front _ _ c.put_book-n.ensures short) c.hand_over.ensures)
