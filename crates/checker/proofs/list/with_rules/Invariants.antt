use mathlib.Core.Path.{◌≡◌}
use mathlib.Core.List.{map}
use lib.ListN.{take}
use Rattle.meaning.specs.Books.{rule_no}
use Rattle.meaning.specs.Bits.{listed}
use Rattle.meaning.specs.Colours.{plus}
use Rattle.meaning.specs.Written.{of}
use Rattle.checker.proofs.list.with_rules.Given as goal

abbrev pub invariant-loop-n : goal.invariant-loop-n
invariant-loop-n l = of (listed l.all.w) ≡ plus (of (listed l.initial.all.w)) (map rule_no (take l.n-index l.list))
