-- `take_names` hands over as many of the array's atoms as the first pass told.
use mathlib.Core.List.{[]}
use mathlib.Core.Path.{sym}
use lib.Seq.{length-take-le}
use Rattle.lparse.proofs.Importing.{atoms-within}
use Rattle.calling.proofs.grounded.take_names.Goals as goal

pub slice_bounds-found-end : goal.slice_bounds-found-end
slice_bounds-found-end g c =
    atoms-within c.args.text.now _ [] _ c.collect.ensures c.in-Ok.is

pub slice_bounds-seen-end : goal.slice_bounds-seen-end
slice_bounds-seen-end g c =
    sym (length-take-le _ _ (atoms-within c.args.text.now _ [] _ c.collect.ensures c.in-Ok.is))
