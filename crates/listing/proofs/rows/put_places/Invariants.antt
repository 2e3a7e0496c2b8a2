use Rattle.std.proofs.Common.{◌≡◌, drop}
use Rattle.talk.specs.Gathered.{gather, gathered}
use Rattle.listing.specs.Text.{places_text}
use Rattle.listing.proofs.rows.put_places.Given as goal

abbrev pub invariant-loop-a : goal.invariant-loop-a
invariant-loop-a l =
    gather (places_text l.asked 0 l.row) (gathered l.initial.line) ≡ gather (places_text l.asked l.a (drop l.a l.row)) (gathered l.line)
