-- Our engine meets demand 2: finding by what holds along any walk (proofs/Found), since a book has one list of all readings only; and from
-- writer's laws of a good book.
use mathlib.Core.Path.{ap}
use Rattle.meaning.specs.Claim.{claim}
use Rattle.meaning.specs.Written.{nothing}
use Rattle.meaning.specs.Told.{fewer, stopped, Answered}
use Rattle.walk.specs.Events.{events}
use Rattle.walk.specs.Tries.{last_clash}
use Rattle.walk.specs.Find.{fixed_walk, find_of}
use Rattle.writer.specs.Write.{Handed}
use Rattle.writer.proofs.Claiming.{write-stopped, write-none}
use Rattle.demands.specs.Engine.{ours}
use Rattle.demands.specs.Demand2.{Demand2}
use Rattle.demands.specs.FindsBy.{FindsBy}
use Rattle.demands.proofs.Calls.{along, written_as, readings-same, nameable}
use Rattle.demands.proofs.Found.{finds-by}

found : FindsBy fixed_walk find_of
found = finds-by fixed_walk

pub ours-2 : Demand2 ours
ours-2 = record {
  gives-readings = λ book b k limit answer c l all n needs h.
      rw (readings-same c.good_book c.bytes all) (found.gives book b k limit answer c n needs h);
  stops = found.stops;
  tells-fewer = λ book b k limit answer c l all n needs h.
      rw (readings-same c.good_book c.bytes all) (found.tells-fewer book b k limit answer c n needs h);
  asking-stops = λ q book b a limit buffer c n m needs paper.
      along (stopped limit) (ap (λ (x : Answered Handed). x.told) (written_as c.good_book (claim q a) limit buffer))
      (write-stopped b q a limit buffer (nameable c) needs paper);
  asking-fewer = λ q book b a limit buffer c n needs h.
      along (fewer n 0 (last_clash (events b nothing))) (ap (λ (x : Answered Handed). x.told) (written_as c.good_book (claim q a) limit buffer))
      (write-none b q a limit buffer (nameable c) needs h);
}
