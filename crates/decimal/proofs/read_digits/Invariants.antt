use mathlib.Core.Path.{◌≡◌}
use lib.ListN.{drop}
use Rattle.decimal.specs.Digits.{value_from}
use Rattle.decimal.proofs.read_digits.Given as goal

abbrev pub invariant-loop-x : goal.invariant-loop-x
invariant-loop-x l = value_from l.most 0 l.word ≡ value_from l.most l.value (drop l.x-index l.word)
