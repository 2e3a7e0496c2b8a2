use mathlib.Core.Path.{◌≡◌}
use lib.ListN.{length, drop}
use Rattle.book.specs.RuleRows.{sets, in_part, entered}
use Rattle.book.proofs.standing.enter_part.Given as goal

abbrev pub invariant-loop-a : goal.invariant-loop-a
invariant-loop-a l =
    (length l.rows ≡ 3072)
    × (entered l.r (in_part l.first l.part) (sets l.initial.rows) ≡ entered l.r (in_part l.first (drop l.a-index l.part)) (sets l.rows))
