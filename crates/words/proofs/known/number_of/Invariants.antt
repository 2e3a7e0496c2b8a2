use mathlib.Core.Path.{◌≡◌}
use Prim.Native.Nat.{◌-◌}
use Rattle.words.specs.Names.{is_spelled, place_of, first_from}
use Rattle.words.proofs.known.number_of.Given as goal

abbrev pub invariant-loop-i : goal.invariant-loop-i
invariant-loop-i l = place_of l.text l.n l.from l.to l.word ≡ first_from l.i (l.n - l.i) (is_spelled l.text l.from l.to l.word)
