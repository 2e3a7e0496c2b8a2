-- `first_word` gives what stands before the space that the search finds.
use mathlib.Core.Path.{sym}
use lib.Seq.{length-take-le}
use Rattle.talk.proofs.Parting.{first_part}
use Rattle.talk.proofs.words.first_word.Goals as goal

pub slice_bounds-result-end : goal.slice_bounds-result-end
slice_bounds-result-end c =
    sym (length-take-le _ c.args.line.now c.find-end.ensures.bound.1)

pub returns : goal.returns
returns c =
    first_part c.args.line.now _ c.find-end.ensures.value
