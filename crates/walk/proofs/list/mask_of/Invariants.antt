use mathlib.Core.Path.{◌≡◌}
use lib.ListN.{take}
use Rattle.meaning.specs.Bits.{members}
use Rattle.walk.specs.Search.{in_list}
use Rattle.walk.proofs.list.mask_of.Given as goal

abbrev pub invariant-loop-a : goal.invariant-loop-a
invariant-loop-a l = members l.mask.w ≡ in_list (take l.a-index l.list)
