-- What the first pass finds decides; of a text that it finds fine the book is made.
use mathlib.Core.Path.{◌≡◌}
use Rattle.std.specs.Prelude.{Ok, Err}
use Rattle.std.proofs.lemmas.Result.{err_from_is_err_and}
use Rattle.lparse.proofs.Importing.{atoms-said, atoms-within, refused-said}
use Rattle.lparse.proofs.importer.import.Goals as goal

pub slice_bounds-import_fine-end : goal.slice_bounds-import_fine-end
slice_bounds-import_fine-end c =
    let a = c.args in
    let e : c.collect.result ≡ Ok c.in_ok-n.n = c.in_ok-n.was in
    atoms-within a.text.now _ a.out.now _ c.collect.ensures e

pub import_fine-requires : goal.import_fine-requires
import_fine-requires c =
    let a = c.args in
    let e : c.collect.result ≡ Ok c.in_ok-n.n = c.in_ok-n.was in
    atoms-said a.text.now _ a.out.now _ c.collect.ensures e

pub returns-in_err-n : goal.returns-in_err-n
returns-in_err-n c =
    let a = c.args in
    let p = err_from_is_err_and c.from_residual.result c.from_residual.ensures.1 in
    let e : c.collect.result ≡ Err c.in_err-n.field-0.0 = c.in_err-n.was in
    rw (p.1, p.2) (refused-said a.text.now _ a.out.now _ c.collect.ensures _ e)
