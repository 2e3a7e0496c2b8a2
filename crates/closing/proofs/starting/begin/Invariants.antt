use mathlib.Core.Path.{◌≡◌}
use mathlib.Core.Bool.{◌&&◌}
use lib.Dec.{ltb}
use Rattle.book.specs.RuleRows.{headed_by, lost_by}
use Rattle.closing.specs.News.{atom_set}
use Rattle.closing.proofs.starting.begin.Given as goal

abbrev pub invariant-loop-a : goal.invariant-loop-a
invariant-loop-a l =
    (atom_set l.nt.w ≡ (λ x. ltb x.0 l.a && headed_by l.rowed.rows l.on.w x)) × (atom_set l.nl.w ≡ (λ x. ltb x.0 l.a && lost_by l.rowed.rows l.off.w x))
