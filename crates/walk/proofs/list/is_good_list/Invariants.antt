use mathlib.Core.Path.{◌≡◌}
use mathlib.Core.Bool.{true}
use lib.Dec.{ltb}
use lib.ListN.{take, drop}
use Rattle.meaning.specs.Sets.{every, ascending}
use Rattle.walk.proofs.GoodLists.{rising}
use Rattle.walk.proofs.list.is_good_list.Given as goal

abbrev pub invariant-loop-n : goal.invariant-loop-n
invariant-loop-n l = (every (λ n. ltb n l.atoms) (take l.n-index l.list) ≡ true) × (ascending l.list ≡ rising l.least (drop l.n-index l.list))
