use Rattle.std.proofs.Common.{◌≡◌, drop}
use Rattle.talk.specs.Gathered.{gather, gathered}
use Rattle.listing.proofs.rows.put_text.Given as goal

abbrev pub invariant-loop-byte : goal.invariant-loop-byte
invariant-loop-byte l = gather l.text (gathered l.initial.line) ≡ gather (drop l.byte-index l.text) (gathered l.line)
